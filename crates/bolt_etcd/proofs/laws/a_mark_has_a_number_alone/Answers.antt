use Rattle.bolt_etcd.proofs.MarkLaws.{mark_has_number, mark_is_not_unread, mark_is_no_revision}
use Rattle.bolt_etcd.proofs.laws.a_mark_has_a_number_alone.Goals as goal

pub returns-clause-revision : goal.returns-clause-revision
returns-clause-revision c = mark_is_no_revision

pub returns-clause-other : goal.returns-clause-other
returns-clause-other c = mark_is_not_unread

pub returns-clause-number : goal.returns-clause-number
returns-clause-number c = mark_has_number
