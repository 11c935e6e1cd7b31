use Rattle.std.proofs.Common.{◌≡◌, ◌∙◌, sym, true, false, rules}
use Rattle.std.proofs.Common.{List, ℕ, Bool, map}
use Rattle.std.specs.Bool.{Decides}
use Rattle.std.specs.Char.{to_ascii_lowercase}
use Rattle.std.specs.Str.{str_eq_ignore_ascii_case}
use Rattle.std.proofs.lemmas.Bool.Decides.{same_from_decides}
use Rattle.std.proofs.lemmas.Slice.Eq.{bytes_eq-Decides}
use Rattle.cb_wire.proofs.Escapes.{after-is}
use Rattle.cb_wire.proofs.uri.after.Goals as goal

same : (letters front : List ℕ) (r : Bool)
    → Decides r (map to_ascii_lowercase front ≡ map to_ascii_lowercase letters)
    → r ≡ str_eq_ignore_ascii_case front letters
same letters front r d =
    same_from_decides _ _ d
    (bytes_eq-Decides (map to_ascii_lowercase front) (map to_ascii_lowercase letters))

pub returns-then-eq_ignore_ascii_case-clause-value : goal.returns-then-eq_ignore_ascii_case-clause-value
returns-then-eq_ignore_ascii_case-clause-value c =
    after-is c.args.letters.now c.args.text.now c.split_at.result.0.now c.split_at.result.1.now true
    (search rules) (search rules)
    (sym c.if-eq_ignore_ascii_case.true ∙ same c.args.letters.now c.split_at.result.0.now
    c.eq_ignore_ascii_case.result c.eq_ignore_ascii_case.ensures.test)

pub returns-else-eq_ignore_ascii_case-clause-value : goal.returns-else-eq_ignore_ascii_case-clause-value
returns-else-eq_ignore_ascii_case-clause-value c =
    after-is c.args.letters.now c.args.text.now c.split_at.result.0.now c.split_at.result.1.now false
    (search rules) (search rules)
    (sym c.if-eq_ignore_ascii_case.false ∙ same c.args.letters.now c.split_at.result.0.now
    c.eq_ignore_ascii_case.result c.eq_ignore_ascii_case.ensures.test)
