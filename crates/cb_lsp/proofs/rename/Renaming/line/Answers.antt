use Rattle.std.proofs.Common.{◌≡◌, ◌∙◌, [], ℕ, ap, refl, sym, zero, suc}
use Rattle.cb_scan.specs.Lines.{line_of}
use Rattle.cb_lsp.proofs.NoText.{no-file}
use Rattle.cb_lsp.proofs.rename.Renaming.line.Goals as goal

first_line : (place : ℕ) → line_of [] place ≡ 1
first_line zero = refl
first_line (suc n) = refl

pub returns-in-None : goal.returns-in-None
returns-in-None c =
    sym (ap (λ t. line_of t c.args.place) (no-file _ _ c.in-None.ensures) ∙ first_line c.args.place)
