-- What completes a word, computed. The expected values are worked out by hand.
use Rattle.std.specs.Prelude.{◌≡◌, ℕ, List, [], ◌∷◌, false, codes, refl, None}
use Rattle.cb_scan.specs.declared.facts.Kind.{Kind}
use Rattle.cb_scan.specs.declared.facts.Kind.TheVariants.{Function, Macro}
use Rattle.cb_tags.specs.TagLines.{Tag}
use Rattle.cb_lsp.specs.Completions.{begin_with, first_of_each, in_name_order, with_other_names}
use Rattle.cb_lsp.specs.Completions.{word_before, word_start}

-- a definition of a name in a file
abbrev def : (name file : List ℕ) → Kind → Tag
def name file kind = record {
  name = name;
  file = file;
  place = 4;
  line = 1;
  text = [];
  kind = kind;
  local = false;
  scope = None;
}

-- definitions by name
abbrev defs : List Tag
defs =
    def (codes "a") (codes "b.c") Function
    ∷ def (codes "ab") (codes "a.c") Macro ∷ def (codes "ab") (codes "b.c") Function
    ∷ def (codes "b") (codes "a.c") Function ∷ []

-- what is behind the place does not count
pub before_the_place : word_before (codes "a = x_12;") 7 ≡ codes "x_1"
before_the_place = refl

pub where_it_begins : word_start (codes "a = x_12;") 7 ≡ 4
where_it_begins = refl

pub behind_a_blank : word_before (codes "a = x;") 4 ≡ []
behind_a_blank = refl

pub at_the_start : word_before (codes "ab") 0 ≡ []
at_the_start = refl

-- a name once, with its first definition
pub once : first_of_each (begin_with (codes "ab") defs)
    ≡ def (codes "ab") (codes "a.c") Macro ∷ []
once = refl

-- not a name that holds the word elsewhere
pub at_its_front : first_of_each (begin_with (codes "b") defs)
    ≡ def (codes "b") (codes "a.c") Function ∷ []
at_its_front = refl

-- names of a function in the order of their bytes, each once
pub in_order_once : in_name_order (codes "b" ∷ codes "ab" ∷ codes "b" ∷ codes "a" ∷ [])
    ≡ codes "a" ∷ codes "ab" ∷ codes "b" ∷ []
in_order_once = refl

-- definitions with other names than those of a function
pub others : with_other_names (codes "ab" ∷ []) defs
    ≡ def (codes "a") (codes "b.c") Function ∷ def (codes "b") (codes "a.c") Function ∷ []
others = refl
