use Rattle.bolt_commands.proofs.AtPaths.{none_at, none_at_root, reason_named, value_at}
use Rattle.bolt_commands.proofs.commands.get_command.find_value.Goals as goal

pub returns-in_default-clause-refused : goal.returns-in_default-clause-refused
returns-in_default-clause-refused c = none_at_root c.args.checked c.args.path.now c.in_default.ensures.cases

pub returns-in_err-bucket-clause-refused : goal.returns-in_err-bucket-clause-refused
returns-in_err-bucket-clause-refused c =
    let key = c.in-Some.key.now in
    reason_named c.args.checked c.args.path.now c.in-Some.parents.now key c.in-Some.ensures.cases.0 _ c.from_residual.result c.in_err-bucket.ensures.refused
    c.from_residual.ensures.1

pub returns-in-Some-get-clause-holds : goal.returns-in-Some-get-clause-holds
returns-in-Some-get-clause-holds c =
    let bucket = c.in_ok-bucket.bucket in
    let found = rw c.as_slice.ensures.value at c.in-Some-get.ensures in
    value_at c.args.checked c.args.path.now c.in-Some.parents.now c.in-Some.key.now c.in-Some.ensures.cases.0 bucket c.in-Some-get.value.now
    c.in_ok-bucket.ensures.file c.in_ok-bucket.ensures.named found

pub returns-in-None-clause-refused : goal.returns-in-None-clause-refused
returns-in-None-clause-refused c =
    let bucket = c.in_ok-bucket.bucket in
    let none = rw c.as_slice.ensures.value at c.in-None.ensures in
    none_at c.args.checked c.args.path.now c.in-Some.parents.now c.in-Some.key.now c.in-Some.ensures.cases.0 bucket c.in_ok-bucket.ensures.file
    c.in_ok-bucket.ensures.named none
