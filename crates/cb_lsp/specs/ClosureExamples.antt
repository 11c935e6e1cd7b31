-- The files that headers mean, and closures, computed. The expected values are worked out by hand.
use Rattle.std.specs.Prelude.{◌≡◌, ℕ, true, false, List, [], ◌∷◌, codes, None, Some, refl}
use Rattle.cb_desk.specs.World.{File, World, standard_bounds, text_of_file}
use Rattle.cb_scan.specs.Profiles.{all_by}
use Rattle.cb_scan.specs.declared.profile.Rules.TheVariants.{Standard}
use Rattle.cb_scan.specs.examples.Includes.{including}
use Rattle.cb_lsp.specs.Closures.{folder_from, includes_by, is_in_closure, meant}
use Rattle.cb_lsp.specs.Headers.{without_dots}
use Rattle.cb_lsp.specs.Nearest.{apart}

abbrev file : (name text : List ℕ) → File
file name text = record { name = name; bytes = text }

-- `unfolding meaning` opens how the file of a header is found, and `unfolding closing` what is in a
-- closure
unfoldable pub meaning : Unit {0}
unfolding folder_from without_dots apart
meaning = tt

unfoldable pub closing : Unit {0}
unfolding including includes_by meaning text_of_file
closing = tt

-- ---- the file that a header means
abbrev files : List File
files =
    file (codes "x/n/c.h") [] ∷ file (codes "x/y/b.h") [] ∷ file (codes "z/b.h") []
    ∷ file (codes "z/n/c.h") [] ∷ []

-- beside the file that includes it
pub beside_it : meant files (codes "z/a.c") (codes "b.h") ≡ Some (codes "z/b.h")
unfolding meaning
beside_it = refl

-- from the folder around, and from the one around that
pub above : meant files (codes "z/w/a.c") (codes "../b.h") ≡ Some (codes "z/b.h")
unfolding meaning
above = refl

pub twice_above : meant files (codes "x/y/a.c") (codes "./../../z/b.h") ≡ Some (codes "z/b.h")
unfolding meaning
twice_above = refl

-- the nearest, where none is beside it; of two that are as near the first
pub nearest : meant files (codes "z/w/a.c") (codes "n/c.h") ≡ Some (codes "z/n/c.h")
unfolding meaning
nearest = refl

pub first : meant files (codes "w/a.c") (codes "n/c.h") ≡ Some (codes "x/n/c.h")
unfolding meaning
first = refl

-- none is called so
pub none : meant files (codes "z/a.c") (codes "stdio.h") ≡ None
unfolding meaning
none = refl

-- ---- closures
abbrev world : List File → World
world fs = record {
  profile = all_by Standard;
  bounds = standard_bounds;
  files = fs;
  wanted = None;
  marks = [];
  frames = [];
}

-- a.c includes b.h, which includes c.h, which includes b.h again; d.h includes a.c
abbrev ring : World
ring =
    world (file (codes "a.c") (codes "#include \"b.h\"\n")
    ∷ file (codes "b.h") (codes "#include \"c.h\"\n")
    ∷ file (codes "c.h") (codes "#include <b.h>\n")
    ∷ file (codes "d.h") (codes "#include \"a.c\"\n") ∷ [])

pub itself : is_in_closure ring (codes "a.c") (codes "a.c") ≡ true
unfolding closing
itself = refl

pub two_steps : is_in_closure ring (codes "a.c") (codes "c.h") ≡ true
unfolding closing
two_steps = refl

pub round : is_in_closure ring (codes "c.h") (codes "c.h") ≡ true
unfolding closing
round = refl

pub not_reached : is_in_closure ring (codes "a.c") (codes "d.h") ≡ false
unfolding closing
not_reached = refl
