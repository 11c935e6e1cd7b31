-- What is found is of the part of the file that ends, or of the innermost level.
use Rattle.std.proofs.Common.{◌∙◌, ap, true}
use Rattle.std.specs.Prelude.{◌++◌}
use Rattle.std.specs.List.{flat_map}
use Rattle.cb_scan.specs.steps.wide.Givens.{object_given, typedef_given}
use Rattle.cb_scan.specs.steps.wide.Joint.{pass_with}
use Rattle.cb_scan.proofs.WideJoint.{no_brace, parts_joined}
use Rattle.cb_scan.proofs.WideOther.{other_found}
use Rattle.cb_scan.proofs.rules.wide.pass.Pass.take_together.Goals as goal

pub returns-clause-found : goal.returns-clause-found
returns-clause-found c =
    let p = c.args.self.now in
    let x = c.args.item.now in
    let xs = c.args.ahead.now in
    let l = c.args.found.now in
    let part = parts_joined p xs x c.requires.stays in
    let kept = ap (λ q. q.levels) c.in_ok-go_on_together.ensures.pass in
    c.in_ok-add_in_file.ensures.found
    ∙ other_found x (no_brace p xs x c.requires.stays) l c.go_on_together.new.found
    (pass_with true p) c.go_on_together.new.self xs
    (c.in_ok-go_on_together.ensures.found ∙ (λ i. record l {
      defs = l.defs ++ flat_map typedef_given (part i);
      objects = l.objects ++ flat_map object_given (part i);
    }))
    kept
