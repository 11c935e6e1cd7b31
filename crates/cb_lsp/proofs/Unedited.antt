-- The files of uses, looked at use by use.
use Rattle.std.proofs.Common.{◌≡◌, ◌∙◌, not, sym, ap, subst, refl, ℕ, Bool, true, false, List, []}
use Rattle.std.proofs.Common.{◌∷◌, ◌++◌, length, map, take, if◌then◌else◌, append_assoc}
use Rattle.std.specs.Prelude.{Option, None, Some, Result, Err}
use Rattle.std.specs.List.{AllByRecursion}
use Rattle.std.specs.Option.{option_map}
use Rattle.std.specs.Str.{bytes_eq}
use Rattle.json.specs.Json.{Json}
use Rattle.cb_desk.specs.World.{text_of_file}
use Rattle.cb_index.specs.Rows.{Fact}
use Rattle.cb_tags.specs.Writers.{Writer}
use Rattle.cb_tags.specs.Writing.{Puts}
use Rattle.cb_wire.specs.Texts.{frame}
use Rattle.cb_wire.specs.Trees.{result_reply}
use Rattle.cb_wire.specs.Uris.{path_below}
use Rattle.cb_wire.specs.Values.{value_text}
use Rattle.cb_lsp.specs.Answers.{answer_reply, reply_with}
use Rattle.cb_lsp.specs.Bodies.{Replies}
use Rattle.cb_lsp.specs.Clients.{Client}
use Rattle.cb_lsp.specs.Documents.{Looked, Oracle, Reading, Work, behind_reading, is_open}
use Rattle.cb_lsp.specs.Documents.{looked_by}
use Rattle.cb_lsp.specs.Renames.{Check, Unrenamed, check, check_more, check_read, checks}
use Rattle.cb_lsp.specs.Renames.{files_of, is_never_edited, not_open, ok_unless}
use Rattle.cb_lsp.specs.Renames.{then_check, unless_found, unless_linked}
use Rattle.cb_lsp.specs.declared.rename.Unedited.{Unedited}
use Rattle.cb_lsp.specs.steps.References.{UsesAreByPlace}
use Rattle.cb_lsp.specs.steps.Renames.{ComesTo, behind_if, check_if, checks_of_uses, is_last_of}
use Rattle.cb_lsp.specs.steps.Renames.{reason_of}
use Rattle.cb_lsp.specs.steps.Works.{one_change}
use Rattle.cb_lsp.proofs.EditGroups.{Groups, behind, by_file, cut, cut-by-file}
use Rattle.cb_lsp.proofs.InTurn.{all-joined}
use Rattle.cb_lsp.proofs.Notices.{quiet}
use Rattle.cb_lsp.proofs.UsesReached.{uses-by-file}

-- ---- use by use, as the files of their groups

abbrev names : Groups → List (List ℕ)
names gs = map (λ (g : List ℕ × List Fact). g.0) gs

-- without the first one, unless it opens
abbrev names_from : (opens : Bool) → Groups → List (List ℕ)
names_from opens [] = []
names_from opens (g ∷ gs) = if opens then g.0 ∷ names gs else names gs

names-next : (b : Bool) (g : List ℕ × List Fact) (gs : Groups)
    → names_from (not b) (g ∷ gs) ≡ names (if b then gs else g ∷ gs)
names-next true g gs = refl
names-next false g gs = refl

names-all : (gs : Groups) → names_from true gs ≡ names gs
names-all [] = refl
names-all (g ∷ gs) = refl

names-by-file : (us : List Fact) (fs : List (List ℕ)) → names (by_file us fs) ≡ fs
names-by-file us [] = refl
names-by-file us (f ∷ fs) = ap (λ gs. f ∷ gs) (names-by-file us fs)

walked : (o : Oracle) (c : Client) (w : Work) (all opens : Bool) (us : List Fact)
    → checks_of_uses o c w all opens us ≡ checks o c w all (names_from opens (cut us))
unfolding checks_of_uses checks cut
walked o c w all opens [] = refl
walked o c w all true (u ∷ []) = refl
walked o c w all false (u ∷ []) = refl
walked o c w all true (u ∷ v ∷ vs) =
    let next = behind_reading o in
    ap (then_check (check o c w all u.file))
    (walked next c w all (not (bytes_eq v.file u.file)) (v ∷ vs)
    ∙ ap (checks next c w all) (names-next (bytes_eq v.file u.file) _ (behind v.file (cut vs))))
walked o c w all false (u ∷ v ∷ vs) =
    walked o c w all (not (bytes_eq v.file u.file)) (v ∷ vs)
    ∙ ap (checks o c w all) (names-next (bytes_eq v.file u.file) _ (behind v.file (cut vs)))

pub checks-by-file : (o : Oracle) (c : Client) (w : Work) (all : Bool) (us : List Fact)
    → UsesAreByPlace us → checks_of_uses o c w all true us ≡ checks o c w all (files_of us)
checks-by-file o c w all us order =
    walked o c w all true us
    ∙ ap (checks o c w all) (names-all (cut us)
    ∙ ap names (cut-by-file us (uses-by-file us order)) ∙ names-by-file us (files_of us))

-- ---- what is decided for a file, before what is decided for more

abbrev decided : (opens no_path : Bool) → Reading → Oracle → Oracle
decided opens no_path found more =
    if opens then record {
      refusals = no_path ∷ more.refusals;
      found = found ∷ more.found;
    } else more

decided-here : (opens n : Bool) (f : Reading) (more : Oracle) (c : Client) (w : Work) (all : Bool)
    (file : List ℕ) → check_if opens (decided opens n f more) c w all file
    ≡ check_if opens (one_change n f) c w all file
decided-here false n f more c w all file = refl
decided-here true n f more c w all file = refl

decided-behind : (opens n : Bool) (f : Reading) (more : Oracle)
    → behind_if opens (decided opens n f more) ≡ more
decided-behind false n f more = refl
decided-behind true n f more = refl

-- ---- the walk

-- what was read, before what is read for more
abbrev behind_reads : List Looked → Check → Check
behind_reads read k = record { why = k.why; read = read ++ k.read }

-- the files of the uses up to those that are left are edited; whatever is decided for the others
abbrev pub EditedSo : (finds : Looked → Type 0) → Client → Work → (all : Bool)
    → (start left : List Fact) → (opens : Bool) → Type 0
EditedSo finds c w all start left opens =
    (read : List Looked) × AllByRecursion finds read × ((more : Oracle) → (o : Oracle)
    × (checks_of_uses o c w all true start
    ≡ behind_reads read (checks_of_uses more c w all opens left)))

pub so-begun : (finds : Looked → Type 0) (c : Client) (w : Work) (all : Bool) (us : List Fact)
    → EditedSo finds c w all us us true
so-begun finds c w all us = ([], tt, λ more. (more, refl))

last-one : (file : List ℕ) (us : List Fact) → is_last_of file (take 1 us) ≡ is_last_of file us
last-one file [] = refl
last-one file (u ∷ us) = refl

module _ (finds : Looked → Type 0) (c : Client) (w : Work) (all : Bool) (start left : List Fact)
  where
    -- a use more, by what its file comes to
    at-use : (rest : List Fact) (u : Fact) (opens n : Bool) (f : Reading) (why : Option Unrenamed)
        (more : Oracle) (so_far : EditedSo finds c w all start left opens) → left ≡ u ∷ rest
        → why ≡ (check_if opens (one_change n f) c w all u.file).why
        → (o : Oracle) × (checks_of_uses o c w all true start ≡ behind_reads so_far.0
        (check_more (check_if opens (one_change n f) c w all u.file).read why
        (checks_of_uses more c w all (is_last_of u.file rest) rest)))
    unfolding checks_of_uses
    at-use rest u opens n f why more so_far is told =
        let o = decided opens n f more in
        let k = check_if opens (one_change n f) c w all u.file in
        let before = so_far.2 o in (
          before.0,
          before.1 ∙ ap (λ us. behind_reads so_far.0 (checks_of_uses o c w all opens us)) is
              ∙ (λ i. behind_reads so_far.0 (then_check (decided-here opens n f more c w all u.file i)
              (checks_of_uses (decided-behind opens n f more i) c w all (is_last_of u.file rest) rest)))
              ∙ ap (λ y. behind_reads so_far.0 (check_more k.read y
              (checks_of_uses more c w all (is_last_of u.file rest) rest))) (sym told),
        )

    pub so-edited : (rest : List Fact) (u : Fact) (opens next n : Bool) (f : Reading)
        → EditedSo finds c w all start left opens
        → left ≡ u ∷ rest → None ≡ (check_if opens (one_change n f) c w all u.file).why
        → AllByRecursion finds (check_if opens (one_change n f) c w all u.file).read
        → next ≡ is_last_of u.file (take 1 rest) → EditedSo finds c w all start rest next
    so-edited rest u opens next n f so_far is told found last =
        let k = check_if opens (one_change n f) c w all u.file in (
          so_far.0 ++ k.read,
          all-joined finds so_far.0 k.read so_far.1 found,
          λ more.
              let before = at-use rest u opens n f None more so_far is told in
              let b = is_last_of u.file rest in
              let end = checks_of_uses more c w all b rest in (
                before.0,
                before.1
                    ∙ (λ i. record { why = end.why; read = sym (append_assoc so_far.0 k.read end.read) i })
                    ∙ ap (λ b. behind_reads (so_far.0 ++ k.read) (checks_of_uses more c w all b rest))
                    (sym (last ∙ last-one u.file rest)),
              ),
        )

    pub so-stays : (rest : List Fact) (u : Fact) (opens n : Bool) (f : Reading)
        (result : Option Unedited) (why : Unrenamed) → EditedSo finds c w all start left opens
        → UsesAreByPlace start → left ≡ u ∷ rest
        → Some why ≡ (check_if opens (one_change n f) c w all u.file).why
        → AllByRecursion finds (check_if opens (one_change n f) c w all u.file).read
        → option_map reason_of result ≡ Some why
        → (o : Oracle) × ComesTo finds (checks o c w all (files_of start)) result
    so-stays rest u opens n f result why so_far order is told found said =
        let k = check_if opens (one_change n f) c w all u.file in
        let before = at-use rest u opens n f (Some why) quiet so_far is told in
        let same = sym before.1 ∙ checks-by-file before.0 c w all start order in (
          before.0,
          subst (λ x. ComesTo finds x result) same
              (said, all-joined finds so_far.0 k.read so_far.1 found),
        )

    pub so-ends : (opens : Bool) → EditedSo finds c w all start left opens → UsesAreByPlace start
        → left ≡ [] → (o : Oracle) × ComesTo finds (checks o c w all (files_of start)) None
    unfolding checks_of_uses
    so-ends opens so_far order none =
        let before = so_far.2 quiet in
        let same = sym (before.1
        ∙ ap (λ us. behind_reads so_far.0 (checks_of_uses quiet c w all opens us)) none)
        ∙ checks-by-file before.0 c w all start order in (
          before.0,
          subst (λ x. ComesTo finds x None) same (refl, all-joined finds so_far.0 [] so_far.1 tt),
        )

-- ---- one file

abbrev stays : List ℕ → Check
stays file = record { why = Some (not_open file); read = [] }

pub check-never : (finds : Looked → Type 0) (o : Oracle) (c : Client) (w : Work)
    (file : List ℕ) (result : Option Unedited) (all : Bool)
    → is_never_edited w.documents file ≡ true
    → option_map reason_of result ≡ Some (not_open file)
    → ComesTo finds (check o c w all file) result
check-never finds o c w file result all never said =
    subst (λ b. ComesTo finds (if b then stays file else (if all
    then record { why = None; read = [] }
    else check_read o w (path_below c.root.path file) file)) result) (sym never) (said, tt)

-- it is read, and open or not
pub check-found : (finds : Looked → Type 0) (f : Reading) (c : Client) (w : Work) (file : List ℕ)
    (result : Option Unedited) (all is_one : Bool) → is_never_edited w.documents file ≡ false
    → all ≡ false → is_open w.documents file ≡ is_one
    → option_map reason_of result ≡ (if is_one then unless_linked file f
    else unless_found file (text_of_file w.world.files file) f)
    → finds (looked_by (length file) w.world (path_below c.root.path file) f)
    → ComesTo finds (check (one_change false f) c w all file) result
check-found finds f c w file result all is_one may some is said found =
    let path = path_below c.root.path file in
    subst (λ b. ComesTo finds (check (one_change false f) c w b file) result) (sym some)
    (subst (λ b. ComesTo finds (if b then stays file else check_read (one_change false f) w path file)
    result) (sym may) (
      subst (λ b. option_map reason_of result ≡ (if b then unless_linked file f
          else unless_found file (text_of_file w.world.files file) f)) (sym is) said,
      (found, tt),
    ))

-- ---- the reply

-- a file is not edited
pub renamed-so : {A E : Type 0} (finds : Looked → Type 0) (k : Check) (j : Json)
    (why : Unrenamed) (id : Json) (before after : Writer) (r : Result A E)
    → (Some why ≡ k.why) × AllByRecursion finds k.read
    → Puts before after r (frame (value_text (answer_reply id (Err why))))
    → Replies finds (reply_with id (record { answer = ok_unless j k.why; read = k.read }))
    before after r
renamed-so finds k j why id before after r told put = (
  subst (λ y. Puts before after r (frame (value_text (answer_reply id (ok_unless j y))))) told.0
      put,
  told.1,
)

-- each file is edited
pub renamed-none : {A E : Type 0} (finds : Looked → Type 0) (k : Check) (j id : Json)
    (before after : Writer) (r : Result A E)
    → (None ≡ k.why) × AllByRecursion finds k.read
    → Puts before after r (frame (value_text (result_reply id j)))
    → Replies finds (reply_with id (record { answer = ok_unless j k.why; read = k.read }))
    before after r
renamed-none finds k j id before after r told put = (
  subst (λ y. Puts before after r (frame (value_text (answer_reply id (ok_unless j y))))) told.0
      put,
  told.1,
)
