-- What is called, as a reply.
use Rattle.std.proofs.Common.{◌≡◌, ◌∙◌, ◌≤◌, ◌+◌, ◌-◌, ◌++◌, ℕ, zero, suc, Bool, true, false, List, []}
use Rattle.std.proofs.Common.{◌<◌, ◌∷◌, append-nil, min, refl, sym, subst, ap, arith, drop, get_or}
use Rattle.std.proofs.Common.{length, map, take}
use Rattle.std.specs.Prelude.{None, Some, if◌then◌else◌}
use Rattle.std.specs.List.{flat_map, prefix_len}
use Rattle.std.specs.Option.{option_map}
use Rattle.std.specs.Str.{bytes_eq}
use Rattle.std.proofs.lemmas.List.{append_assoc, drop-drop, flat_map_more, length-drop, take_all}
use Rattle.std.proofs.lemmas.List.{take_more}
use Rattle.std.proofs.lemmas.Slice.Eq.{bytes_eq-Decides}
use Rattle.std.proofs.Math.Seq.{take-append_seam, take-length}
use Rattle.json.specs.Json.{Json, null}
use Rattle.cb_desk.specs.Scanned.{ScannedText, scanned_by, scanned_named}
use Rattle.cb_desk.specs.World.{World, has_file, text_of_file}
use Rattle.cb_scan.specs.declared.facts.Call.{Call}
use Rattle.cb_scan.specs.TextFacts.{TextFacts}
use Rattle.cb_wire.specs.declared.position.Position.{Position}
use Rattle.cb_wire.specs.Positions.{place}
use Rattle.cb_lsp.specs.Answers.{list_of, outgoing_named}
use Rattle.cb_lsp.specs.Calls.{cut_by}
use Rattle.cb_lsp.specs.Clients.{Client}
use Rattle.cb_lsp.specs.Messages.{Serving}
use Rattle.cb_lsp.specs.Outgoing.{Callee, Group, by_name, callees_by, have_one_name, outgoing_calls}
use Rattle.cb_lsp.specs.Outgoing.{Called, files_called, first_called, told_by_name}
use Rattle.cb_lsp.specs.Refresh.{files_called_in}
use Rattle.cb_lsp.specs.Questions.{outgoing}
use Rattle.cb_lsp.specs.declared.outgoing.CalleeGroup.{CalleeGroup}
use Rattle.cb_lsp.specs.declared.outgoing.CalleeRow.{CalleeRow}
use Rattle.cb_lsp.specs.steps.Outgoing.{FirstGroup, callee_in, callee_rows, group_in}
use Rattle.cb_lsp.proofs.Asked.{Tells, facts-there}
use Rattle.cb_lsp.proofs.CallGroups.{IsAlike, cut-front, drop-map, mapped, taken}

-- two calls of one name have it in common with the same ones
one-name : IsAlike have_one_name
one-name c d e is = ap (λ n. bytes_eq n e.name) ((bytes_eq-Decides c.name d.name).0 is)

-- the rows at the front that have one name are the first group
pub first-group : (rows : List CalleeRow) (first : CalleeRow) (behind : List CalleeRow) (n : ℕ)
    → rows ≡ first ∷ behind
    → n ≡ prefix_len (λ r. have_one_name (callee_in first) (callee_in r)) behind
    → n ≤ length behind
    → FirstGroup (callee_rows rows) (callee_in first, callee_rows (take (n + 1) rows))
first-group rows first behind n is counted fits =
    let size = taken callee_in n behind fits in
    let more : suc n ≡ n + 1 = omega arith in
    subst (λ rs. FirstGroup (callee_rows rs)
    (callee_in first, callee_rows (take (n + 1) rs))) (sym is)
    (record {
      some = subst (λ k. 1 ≤ length (callee_rows (take k (first ∷ behind)))) more
          (omega (arith, size));
      within = subst (λ k. length (callee_rows (take k (first ∷ behind)))
          ≤ length (callee_rows (first ∷ behind))) more
          (omega (arith, size, mapped callee_in behind, fits));
      cut = cut-front have_one_name one-name callee_in first behind n counted fits;
    })

-- the groups behind the first one
pub cut-behind-group : (rest : List CalleeRow) (g : CalleeGroup)
    → FirstGroup (callee_rows rest) (group_in g)
    → cut_by have_one_name (callee_rows rest)
    ≡ group_in g ∷ cut_by have_one_name (callee_rows (drop (length g.calls.now) rest))
cut-behind-group rest g first =
    first.cut
    ∙ ap (λ n. group_in g ∷ cut_by have_one_name (drop n (callee_rows rest)))
    (mapped callee_in g.calls.now)
    ∙ ap (λ cs. group_in g ∷ cut_by have_one_name cs)
    (sym (drop-map callee_in (length g.calls.now) rest))

-- one more group was made
pub groups-step : (rows rest : List CalleeRow) (given : ℕ) (g : CalleeGroup)
    (made all : List Group) → given ≤ length rows → rest ≡ drop given rows
    → FirstGroup (callee_rows rest) (group_in g)
    → made ++ cut_by have_one_name (callee_rows (drop given rows)) ≡ all
    → (given + length g.calls.now ≤ length rows)
    × ((made ++ group_in g ∷ [])
    ++ cut_by have_one_name (callee_rows (drop (given + length g.calls.now) rows)) ≡ all)
groups-step rows rest given g made all within is first so_far =
    let n = length g.calls.now in
    let size : length rest ≡ length rows - given = ap length is ∙ length-drop given rows in
    let cut : cut_by have_one_name (callee_rows (drop given rows))
    ≡ group_in g ∷ cut_by have_one_name (callee_rows (drop (given + n) rows)) =
    ap (λ rs. cut_by have_one_name (callee_rows rs)) (sym is)
    ∙ cut-behind-group rest g first
    ∙ ap (λ rs. group_in g ∷ cut_by have_one_name (callee_rows rs))
    (ap (drop n) is ∙ drop-drop n given rows) in (
      omega (
        arith,
        within,
        size,
        first.within,
        mapped callee_in g.calls.now,
        mapped callee_in rest,
      ),
      append_assoc made (group_in g ∷ []) _ ∙ ap (λ gs. made ++ gs) (sym cut) ∙ so_far,
    )

-- ---- what names mean

-- the first, of which there may be fewer
pub take-min : {X : Type 0} (n : ℕ) (xs : List X) → take (min n (length xs)) xs ≡ take n xs
take-min zero xs = let none : min zero (length xs) ≡ 0 = omega arith in
    ap (λ k. take k xs) none
take-min (suc n) [] = let none : min (suc n) 0 ≡ 0 = omega arith in rw none refl
take-min (suc n) (x ∷ xs) =
    let more : min (suc n) (suc (length xs)) ≡ suc (min n (length xs)) = omega arith in
    rw more (ap (λ l. x ∷ l) (take-min n xs))

pub rows-taken : (n : ℕ) (rows : List CalleeRow)
    → callee_rows (take n rows) ≡ take n (callee_rows rows)
rows-taken zero rows = refl
rows-taken (suc n) [] = refl
rows-taken (suc n) (r ∷ rs) = ap (λ l. callee_in r ∷ l) (rows-taken n rs)

-- the first of some, and then others
take-again : {X : Type 0} (n : ℕ) (xs ys : List X) → take n (take n xs ++ ys) ≡ take n (xs ++ ys)
take-again zero xs ys = refl
take-again (suc n) [] ys = refl
take-again (suc n) (x ∷ xs) ys = ap (λ l. x ∷ l) (take-again n xs ys)

-- what was made is all, or as many as may be
pub made-all : {X : Type 0} (n : ℕ) (made left all : List X) → made ++ left ≡ all → left ≡ []
    → length made ≤ n → made ≡ take n all
made-all n made left all whole none few =
    sym (take_all n made few)
    ∙ ap (take n) (sym (append-nil made) ∙ ap (λ l. made ++ l) (sym none) ∙ whole)

pub made-most : {X : Type 0} (n : ℕ) (made left all : List X) → made ++ left ≡ all
    → length made ≡ n → made ≡ take n all
made-most n made left all whole full =
    sym (take-append_seam made left) ∙ ap (λ k. take k (made ++ left)) full ∙ ap (take n) whole

-- what one more group means
pub called-more : {X Y : Type 0} (f : X → List Y) (gs : List X) (i n : ℕ) (d : X)
    (made more : List Y) → i < length gs → made ≡ take n (flat_map f (take i gs))
    → more ≡ take n (made ++ f (get_or gs i d)) → more ≡ take n (flat_map f (take (i + 1) gs))
called-more f gs i n d made more within so_far grown =
    grown ∙ ap (λ ms. take n (ms ++ f (get_or gs i d))) so_far
    ∙ take-again n (flat_map f (take i gs)) (f (get_or gs i d))
    ∙ ap (take n) (flat_map_more f [] (take i gs) (get_or gs i d)
    ∙ ap (flat_map f) (sym (take_more gs i d within)))

pub called-all : {X Y Z : Type 0} (f : Y → List Z) (made : X → Y) (gs : List X) (i : ℕ)
    → length gs ≤ i → flat_map (λ g. f (made g)) (take i gs) ≡ flat_map f (map made gs)
called-all f made [] zero past = refl
called-all f made [] (suc i) past = refl
called-all f made (g ∷ gs) zero past = absurd (omega (arith, past))
called-all f made (g ∷ gs) (suc i) past =
    ap (λ ys. f (made g) ++ ys) (called-all f made gs i (omega (arith, past)))

-- a list is its first element and the others
pub front : {A : Type 0} (xs : List A) (d : A) → 1 ≤ length xs
    → xs ≡ get_or xs 0 d ∷ take (length xs - 1) (drop 1 xs)
front [] d some = grind (arith, some)
front (y ∷ ys) d some =
    ap (λ l. y ∷ l) (sym (take-length ys)) ∙ ap (λ n. y ∷ take n ys) (omega arith)

-- ---- a reply

-- a file that is there, and one that is not
pub outgoing-there : (c : Client) (w : World) (name file : List ℕ) (p : Position)
    (t : ScannedText) → Some t ≡ scanned_named w.profile w.files file
    → list_of (outgoing_calls c w file t.bytes name p) ≡ outgoing_named c w name p (Some file)
outgoing-there c w name file p t found =
    (elim (has_file w.files file) as
    (λ b. Some t
    ≡ option_map (scanned_by w.profile) (if b then Some (text_of_file w.files file) else None)
    → list_of (outgoing_calls c w file t.bytes name p)
    ≡ (if b then list_of (outgoing_calls c w file (text_of_file w.files file) name p) else null)) [
      | true ↦ λ k.
          let is : t ≡ scanned_by w.profile (text_of_file w.files file) = cc in
          ap (λ (x : ScannedText). list_of (outgoing_calls c w file x.bytes name p)) is
      | false ↦ λ k. cc
    ]) found

-- what is told of rows of calls of a file is told of its calls
pub outgoing-told : (c : Client) (w : World) (name file : List ℕ) (p : Position) (t : ScannedText)
    (text : List ℕ) (n : ℕ) (calls : List Call) (rows : List Callee)
    → Some t ≡ scanned_named w.profile w.files file → text ≡ t.bytes
    → n ≡ place c.encoding text p → calls ≡ t.facts.calls
    → rows ≡ by_name (callees_by c.encoding t.bytes name n calls)
    → list_of (told_by_name c w file rows) ≡ outgoing_named c w name p (Some file)
outgoing-told c w name file p t text n calls rows found text-is n-is calls-is rows-is =
    let at = n-is ∙ ap (λ b. place c.encoding b p) text-is in
    let all = calls-is ∙ ap (λ (f : TextFacts). f.calls)
    (facts-there w w w file t found refl refl) in
    ap (λ rs. list_of (told_by_name c w file rs))
    (rows-is ∙ (λ i. by_name (callees_by c.encoding t.bytes name (at i) (all i))))
    ∙ outgoing-there c w name file p t found

-- ---- the files of what is called

called-there : (c : Client) (w : World) (name file : List ℕ) (p : Position) (t : ScannedText)
    → Some t ≡ scanned_named w.profile w.files file
    → files_called c w file t.bytes name p ≡ files_called_in c w name p (Some file)
called-there c w name file p t found =
    (elim (has_file w.files file) as
    (λ b. Some t
    ≡ option_map (scanned_by w.profile) (if b then Some (text_of_file w.files file) else None)
    → files_called c w file t.bytes name p
    ≡ (if b then files_called c w file (text_of_file w.files file) name p else [])) [
      | true ↦ λ k.
          let is : t ≡ scanned_by w.profile (text_of_file w.files file) = cc in
          ap (λ (x : ScannedText). files_called c w file x.bytes name p) is
      | false ↦ λ k. cc
    ]) found

pub called-told : (c : Client) (w : World) (name file : List ℕ) (p : Position) (t : ScannedText)
    (text : List ℕ) (n : ℕ) (calls : List Call) (rows : List Callee)
    → Some t ≡ scanned_named w.profile w.files file → text ≡ t.bytes
    → n ≡ place c.encoding text p → calls ≡ t.facts.calls
    → rows ≡ by_name (callees_by c.encoding t.bytes name n calls)
    → map (λ (called : Called). called.0.file) (first_called w file rows)
    ≡ files_called_in c w name p (Some file)
called-told c w name file p t text n calls rows found text-is n-is calls-is rows-is =
    let at = n-is ∙ ap (λ b. place c.encoding b p) text-is in
    let all = calls-is ∙ ap (λ (f : TextFacts). f.calls)
    (facts-there w w w file t found refl refl) in
    ap (λ rs. map (λ (called : Called). called.0.file) (first_called w file rs))
    (rows-is ∙ (λ i. by_name (callees_by c.encoding t.bytes name (at i) (all i))))
    ∙ called-there c w name file p t found

pub outgoing-missing : (c : Client) (w : World) (name file : List ℕ) (p : Position)
    → None ≡ scanned_named w.profile w.files file → null ≡ outgoing_named c w name p (Some file)
outgoing-missing c w name file p missing =
    (elim (has_file w.files file) as
    (λ b. None
    ≡ option_map (scanned_by w.profile) (if b then Some (text_of_file w.files file) else None)
    → null
    ≡ (if b then list_of (outgoing_calls c w file (text_of_file w.files file) name p) else null)) [
      | true ↦ λ k. cc
      | false ↦ λ k. refl
    ]) missing

-- what is told of the file of a URI
pub outgoing-tells : (no_memory : Bool) (s : Serving) (id : Json) (name uri : List ℕ) (p : Position)
    → Tells (λ c w file. outgoing_named c w name p file) no_memory s id uri (outgoing name uri p)
outgoing-tells true s id name uri p = refl
outgoing-tells false s id name uri p = refl
