-- Names of files.
use Rattle.std.specs.Prelude.{ℕ, Bool, ◌&&◌, ◌||◌, nat_le, nat_eq, List, length, codes}
use Rattle.std.specs.List.{list_all, ends_with}
use Rattle.cb_tags.specs.declared.name.TheConstants.{LEAST_NAME, MOST_NAME}

-- a file's name (this project's profile): 2 to 255 printable bytes without a blank that end in .c
-- or .h
abbrev pub is_file_name : List ℕ → Bool
is_file_name name =
    nat_le LEAST_NAME (length name) && nat_le (length name) MOST_NAME
    && list_all (λ b. nat_le 0x21 b && nat_le b 0x7E) name
    && (ends_with nat_eq name (codes ".c") || ends_with nat_eq name (codes ".h"))
