-- The names under which a plain tags file has its lines.
use Rattle.std.specs.Prelude.{ℕ, ◌-◌, ◌==◌, nat_eq, List, ◌++◌, length, take, codes, if◌then◌else◌}
use Rattle.std.specs.List.{after_last, ends_with}
use Rattle.std.specs.Str.{bytes_eq}
use Rattle.cb_scan.specs.Bytes.{slash}

-- the name of a file without all up to its last `/` (POSIX ctags)
abbrev pub base_name : List ℕ → List ℕ
base_name file = after_last (λ b. b == slash) file

-- without one `.c` at the end (POSIX ctags)
abbrev pub without_c : List ℕ → List ℕ
without_c name = if ends_with nat_eq name (codes ".c") then take (length name - 2) name else name

-- the tag name of a definition in a file (POSIX ctags): its own name; for `main` it is `M` and the
-- file's name without all up to its last `/` and without one `.c`
unfoldable pub tag_name : List ℕ → List ℕ → List ℕ
tag_name name file =
    if bytes_eq name (codes "main") then codes "M" ++ without_c (base_name file) else name
