use Rattle.bolt_cli.proofs.whole_run.+read_file.Given as goal

abbrev pub decreases-read_file : goal.decreases-read_file
decreases-read_file g l = l.left
