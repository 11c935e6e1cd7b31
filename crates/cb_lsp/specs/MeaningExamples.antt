-- What names mean in files, computed. The expected values are worked out by hand.
use Rattle.std.specs.Prelude.{◌≡◌, ℕ, Bool, true, false, List, [], ◌∷◌, codes, map, None, Some}
use Rattle.std.specs.Prelude.{refl}
use Rattle.cb_desk.specs.World.{empty_world, standard_bounds, text_of_file}
use Rattle.cb_index.specs.Rows.{Fact}
use Rattle.cb_scan.specs.declared.facts.Kind.{Kind}
use Rattle.cb_scan.specs.declared.facts.Kind.TheVariants.{Function, Variable}
use Rattle.cb_scan.specs.Profiles.{all_by}
use Rattle.cb_scan.specs.declared.profile.Rules.TheVariants.{Standard}
use Rattle.cb_tags.specs.TagLines.{Tag}
use Rattle.cb_wire.specs.declared.units.Encoding.TheVariants.{Utf16}
use Rattle.cb_lsp.specs.Clients.{Client}
use Rattle.cb_lsp.specs.Meaning.{is_private}
use Rattle.cb_lsp.specs.Documents.{Document, Looked, Oracle, Reading, Work, document_of, gone}
use Rattle.cb_lsp.specs.Documents.{holds, linked, no_room, present}
use Rattle.cb_lsp.specs.Names.{is_outside}
use Rattle.cb_lsp.specs.References.{references}
use Rattle.cb_lsp.specs.Renames.{checks, files_of, no_memory, not_open, second_name, uses_in}
use Rattle.cb_lsp.specs.Searches.{is_like}

-- the definition of `f` in a file, `static` or not
abbrev in_file : (file : List ℕ) → Kind → (local : Bool) → Tag
in_file file kind local = record {
  name = codes "f";
  file = file;
  place = 0;
  line = 1;
  text = [];
  kind = kind;
  local = local;
  scope = None;
}

abbrev in_a : Tag
in_a = in_file (codes "a.c") Function false

abbrev private_in_b : Tag
private_in_b = in_file (codes "b.c") Function true

abbrev private_in_c : Tag
private_in_c = in_file (codes "c.c") Function true

abbrev inline_in_h : Tag
inline_in_h = in_file (codes "h.h") Function true

-- a `static` function of a header is private to no file, and neither is a `static` variable
pub in_a_header : is_private inline_in_h ≡ false
unfolding is_private
in_a_header = refl

pub a_variable : is_private (in_file (codes "b.c") Variable true) ≡ false
unfolding is_private
a_variable = refl

-- a name that is the query is no other one that holds it
pub found_once : is_like (codes "f") in_a ≡ false
found_once = refl

pub found_in_another_case : is_like (codes "F") in_a ≡ true
found_in_another_case = refl

-- ---- uses

-- a use of `f` in a file
abbrev use_in : (file : List ℕ) → (place : ℕ) → Fact
use_in file place = record {
  file = file;
  name = codes "f";
  place = place;
  scope = None;
  scope_place = None;
  line = 1;
  text = [];
}

-- in each file at the place of a definition, and behind it twice at one place
abbrev uses : List Fact
uses =
    use_in (codes "a.c") 0 ∷ use_in (codes "a.c") 7 ∷ use_in (codes "a.c") 7
    ∷ use_in (codes "b.c") 0 ∷ use_in (codes "b.c") 7 ∷ use_in (codes "c.c") 0 ∷ []

-- what is private to another file is not used here, and each other use counts
pub used_here : references (in_a ∷ private_in_b ∷ []) (codes "c.c") true uses
    ≡ use_in (codes "a.c") 0 ∷ use_in (codes "a.c") 7 ∷ use_in (codes "a.c") 7
    ∷ use_in (codes "c.c") 0 ∷ []
unfolding is_private
used_here = refl

-- what is private to the file is used there alone
pub used_there : references (in_a ∷ private_in_b ∷ []) (codes "b.c") true uses
    ≡ use_in (codes "b.c") 0 ∷ use_in (codes "b.c") 7 ∷ []
unfolding is_private
used_there = refl

-- names of definitions are left out, of those files that have them
pub without_definitions : references (in_a ∷ private_in_b ∷ []) (codes "a.c") false uses
    ≡ use_in (codes "a.c") 7 ∷ use_in (codes "a.c") 7 ∷ use_in (codes "c.c") 0 ∷ []
unfolding is_private
without_definitions = refl

-- where all are private to other files, the rest is in the reach
pub without_any_definition : references (private_in_b ∷ private_in_c ∷ []) (codes "a.c") false uses
    ≡ use_in (codes "a.c") 0 ∷ use_in (codes "a.c") 7 ∷ use_in (codes "a.c") 7 ∷ []
unfolding is_private
without_any_definition = refl

-- ---- renames

-- each file once, in the order of the first uses
pub used_in : files_of uses ≡ codes "a.c" ∷ codes "b.c" ∷ codes "c.c" ∷ []
unfolding files_of
used_in = refl

pub uses_in_one : uses_in (codes "b.c") uses ≡ use_in (codes "b.c") 0 ∷ use_in (codes "b.c") 7 ∷ []
uses_in_one = refl

-- a file is open, and another one, whose last text was refused
abbrev documents : List Document
documents =
    record { name = codes "a.c"; kept = present; lost = false }
    ∷ record { name = codes "b.c"; kept = present; lost = true } ∷ []

-- two others are not
abbrev work : Work
work = record {
  world = record (empty_world (all_by Standard) standard_bounds) {
    files = record { name = codes "c.c"; bytes = codes "1" }
        ∷ record { name = codes "d.c"; bytes = codes "22" } ∷ [];
  };
  documents = documents;
}

-- these are found, without a refusal of memory, and one is refused at the first file
abbrev finding : List Reading → Oracle
finding found = record { refusals = []; found = found }

abbrev refusing : Oracle
refusing = record { refusals = true ∷ []; found = holds (codes "1") ∷ [] }

abbrev open_and_closed : List (List ℕ)
open_and_closed = codes "a.c" ∷ codes "c.c" ∷ codes "d.c" ∷ []

abbrev client : Client
client = record {
  root = record { path = codes "/w"; uri = codes "file:///w" };
  encoding = Utf16;
  tree = false;
}

abbrev found_at : (path : List ℕ) → Reading → Looked
found_at path found = record { path = path; most = 1000001; only = 3; found = found }

-- what is open is edited
pub one_is_open : checks (finding []) client work true (codes "a.c" ∷ [])
    ≡ record { why = None; read = [] }
unfolding document_of checks
one_is_open = refl

-- where a file is not, each is read; one that is open need not be there, but has no second name
pub one_was_changed : checks (finding (gone ∷ holds (codes "2") ∷ [])) client work false
    open_and_closed ≡ record {
      why = Some (not_open (codes "c.c"));
      read = found_at (codes "/w/a.c") gone ∷ found_at (codes "/w/c.c") (holds (codes "2")) ∷ [];
    }
unfolding document_of checks text_of_file
one_was_changed = refl

pub one_has_a_second_name : checks (finding (linked ∷ [])) client work false open_and_closed
    ≡ record {
      why = Some (second_name (codes "a.c"));
      read = found_at (codes "/w/a.c") linked ∷ [];
    }
unfolding document_of checks
one_has_a_second_name = refl

-- nothing outside the root is edited, and it is not looked at
pub one_is_outside : checks (finding []) client work false (codes "/v/e.c" ∷ open_and_closed)
    ≡ record { why = Some (not_open (codes "/v/e.c")); read = [] }
unfolding checks
one_is_outside = refl

-- so it is with a name that another one stands for, or that leads out of the root
pub names_are_outside : map is_outside (codes "/w/c.c" ∷ codes "./c.c" ∷ codes "x//c.c"
    ∷ codes "x/../c.c" ∷ codes "../c.c" ∷ codes "x/c.c" ∷ codes "..x/.c.c" ∷ [])
    ≡ true ∷ true ∷ true ∷ true ∷ true ∷ false ∷ false ∷ []
names_are_outside = refl

-- nothing is read behind a file that is not edited
pub one_is_gone : checks (finding (holds [] ∷ gone ∷ holds (codes "22") ∷ [])) client work false
    open_and_closed ≡ record {
      why = Some (not_open (codes "c.c"));
      read = found_at (codes "/w/a.c") (holds []) ∷ found_at (codes "/w/c.c") gone ∷ [];
    }
unfolding document_of checks text_of_file
one_is_gone = refl

pub no_room_for_its_bytes : (checks (finding (gone ∷ no_room ∷ [])) client work false
    open_and_closed).why ≡ Some no_memory
unfolding document_of checks text_of_file
no_room_for_its_bytes = refl

pub no_memory_for_its_path : (checks refusing client work false open_and_closed).why
    ≡ Some no_memory
unfolding document_of checks text_of_file
no_memory_for_its_path = refl

-- what the disk has of a document does not count
pub one_is_lost : checks (finding (holds (codes "1") ∷ [])) client work false
    (codes "b.c" ∷ open_and_closed) ≡ record { why = Some (not_open (codes "b.c")); read = [] }
unfolding document_of checks text_of_file
one_is_lost = refl
