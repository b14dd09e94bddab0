use Rattle.bolt_recover.proofs.SurveyIsOne.{same_survey}
use Rattle.bolt_recover.proofs.laws.survey_is_one.Goals as goal

pub returns : goal.returns
returns c = same_survey
