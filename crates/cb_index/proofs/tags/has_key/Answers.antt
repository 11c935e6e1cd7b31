use Rattle.std.proofs.Common.{◌≡◌, ◌∙◌, rules, true, sym, ap, nat_eq}
use Rattle.std.proofs.lemmas.Bool.Decides.{Decides-eqb}
use Rattle.std.proofs.lemmas.Map.Text.{is_eq-slice_cmp}
use Rattle.std.specs.Prelude.{◌&&◌}
use Rattle.std.specs.Ordering.{is_eq}
use Rattle.std.specs.Str.{bytes_eq}
use Rattle.cb_index.specs.Entries.{key_of}
use Rattle.cb_index.specs.Kinds.{keyer_of, prefix_of}
use Rattle.cb_index.proofs.tags.has_key.Goals as goal

pub returns-then-prefix-entry : goal.returns-then-prefix-entry
returns-then-prefix-entry c =
    let key = c.args.key.now in
    let own = key_of (keyer_of c.args.kind) c.args.archive.now c.args.entry in
    let same : nat_eq (prefix_of c.args.kind key) c.args.entry.prefix ≡ true =
    (Decides-eqb _ _).1 (search rules) in
    let equal : c.eq.result ≡ is_eq c.compare_key_bytes.result = search rules in
    equal ∙ ap is_eq c.compare_key_bytes.ensures ∙ is_eq-slice_cmp key own
    ∙ ap (λ b. b && bytes_eq key own) (sym same)
    ∙ (search rules)
