-- Definitions that are written one after another, or that are none.
use Rattle.std.proofs.Common.{◌≡◌, ◌≤◌, ◌∙◌, ◌-◌, ◌==◌, [], ◌∷◌, List, ℕ, ap, drop, false, get_or}
use Rattle.std.proofs.Common.{length, map, refl, sym, take, true}
use Rattle.std.proofs.lemmas.Bool.{true≢false}
use Rattle.std.proofs.lemmas.Bool.Decides.{Decides-eqb}
use Rattle.std.proofs.lemmas.List.{nil_from_length}
use Rattle.json.specs.Json.{Json}
use Rattle.cb_scan.specs.declared.lex.piece.Span.{Span}
use Rattle.cb_tags.specs.TagLines.{Tag, tag_of}
use Rattle.cb_lsp.specs.Answers.{hover_over, list_of, some_of}
use Rattle.cb_lsp.specs.Clients.{Client}
use Rattle.cb_lsp.specs.Hovers.{hover_of, hover_texts}
use Rattle.cb_lsp.specs.Places.{range_of}
use Rattle.cb_tags.specs.declared.row.TagRow.{TagRow}
use Rattle.cb_lsp.specs.steps.Located.{Locating}
use Rattle.cb_lsp.proofs.Outgoings.{front}

-- the first one is written, and the others are left
pub rows-step : (show : Locating → Tag → List ℕ) (old new : Locating) → new ≡ old
    → (rows : List TagRow) (d : TagRow) (text : List ℕ) → 1 ≤ length rows
    → text ≡ show old (tag_of (get_or rows 0 d))
    → map (show old) (map tag_of rows)
    ≡ text ∷ map (show new) (map tag_of (take (length rows - 1) (drop 1 rows)))
rows-step show old new same rows d text some is =
    let more = take (length rows - 1) (drop 1 rows) in
    ap (λ rs. map (show old) (map tag_of rs)) (front rows d some)
    ∙ (λ i. sym is i ∷ map (show (sym same i)) (map tag_of more))

-- ---- none, and some

pub none-there : (rows : List TagRow) → (length rows == 0) ≡ true → [] ≡ map tag_of rows
none-there rows is =
    sym (ap (map tag_of) (nil_from_length rows ((Decides-eqb (length rows) 0).0 is)))

pub some-listed : (item : Tag → Json) (rows : List TagRow) → (length rows == 0) ≡ false
    → list_of (map item (map tag_of rows)) ≡ some_of (map item (map tag_of rows))
some-listed item [] is = absurd (true≢false is)
some-listed item (r ∷ rs) is = refl

pub some-shown : (c : Client) (text : List ℕ) (word : Span) (rows : List TagRow)
    → (length rows == 0) ≡ false
    → hover_of (hover_texts (map tag_of rows)) (range_of c.encoding text word.start word.end)
    ≡ hover_over c text word (map tag_of rows)
some-shown c text word [] is = absurd (true≢false is)
some-shown c text word (r ∷ rs) is = refl
