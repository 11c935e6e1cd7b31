-- The places that the answer to field 4 shows are those of the lines that hold the text.
use Rattle.std.proofs.Common.{◌≡◌, ◌∙◌, ap, refl, ℕ, List, [], ◌∷◌, ◌++◌, map, Some}
use Rattle.std.specs.List.{flat_map}
use Rattle.cb_desk.specs.declared.rows.Field.TheVariants.{Text}
use Rattle.cb_desk.specs.Answer.{answer, text_rows_in, line_row}
use Rattle.cb_desk.specs.Marks.{place_of_row, places_of_text, wanted_places}
use Rattle.cb_desk.specs.Search.{lines_with}
use Rattle.cb_desk.specs.World.{World, File, IsAscending}
use Rattle.cb_desk.specs.steps.Held.{held_in, held_places}
use Rattle.cb_desk.proofs.TextRowsApart.{text_rows-distinct}

map-join : {X Y : Type 0} (h : X → Y) (xs ys : List X) → map h (xs ++ ys) ≡ map h xs ++ map h ys
map-join h [] ys = refl
map-join h (x ∷ xs) ys = ap (λ l. h x ∷ l) (map-join h xs ys)

rows-in : (f : File) (ns : List ℕ) → map place_of_row (map (line_row f.name f.bytes) ns)
    ≡ map (λ n. record { file = f.name; line = n }) ns
rows-in f [] = refl
rows-in f (n ∷ ns) = ap (λ l. record { file = f.name; line = n } ∷ l) (rows-in f ns)

-- the places of the rows of all files
places-of-rows : (text : List ℕ) (files : List File)
    → map place_of_row (flat_map (text_rows_in text) files) ≡ held_places text files
places-of-rows text [] = refl
places-of-rows text (f ∷ files) =
    map-join place_of_row (text_rows_in text f) (flat_map (text_rows_in text) files)
    ∙ ap (λ l. l ++ map place_of_row (flat_map (text_rows_in text) files))
    (rows-in f (lines_with text f.bytes))
    ∙ ap (λ l. held_in text f ++ l) (places-of-rows text files)

-- the answer's places
pub answer-held : (w : World) (text : List ℕ) → IsAscending w.files
    → map place_of_row (answer w Text text) ≡ held_places text w.files
answer-held w text up =
    ap (map place_of_row) (text_rows-distinct text w.files up) ∙ places-of-rows text w.files

-- those of the wanted text
pub wanted-held : (w : World) (text : List ℕ) → w.wanted ≡ Some text → IsAscending w.files
    → wanted_places w ≡ held_places text w.files
wanted-held w text is up = ap (places_of_text w) is ∙ answer-held w text up
