use Rattle.std.proofs.Common.{◌≡◌, ◌∙◌, IfSome, ap, not, subst, sym, true}
use Rattle.cb_desk.proofs.PlaceLemmas.{same-name}
use Rattle.cb_desk.specs.World.{text_of_file}
use Rattle.cb_lsp.specs.Alike.{is_counted_alike}
use Rattle.cb_lsp.specs.steps.Renames.{work_in}
use Rattle.cb_lsp.proofs.rename.Renaming.is_like.Goals as goal

pub returns-then-eq : goal.returns-then-eq
returns-then-eq c =
    let files = (work_in c.args.self.now).world.files in
    let same = same-name c.in-Some.file.now c.args.spot.now.file.now (sym c.if-eq.ensures) in
    let alike = subst (λ o. IfSome o (λ f. is_counted_alike (text_of_file files f.now) ≡ true))
    c.in-Some.is c.requires in
    sym (ap (λ b. not (not b))
    (ap (λ n. is_counted_alike (text_of_file files n)) (sym same) ∙ alike))
