-- The texts of positions and ranges.
use Rattle.std.proofs.Common.{◌≡◌, ◌+◌, ◌++◌, ℕ, List, sym, ap, ◌∙◌, arith, length, length-append, decimal}
use Rattle.std.specs.Prelude.{codes}
use Rattle.json.specs.Print.{escape_byte}
use Rattle.cb_wire.specs.declared.position.Position.{Position}
use Rattle.cb_wire.specs.declared.position.Range.{Range}
use Rattle.cb_wire.specs.Values.{position_tree, range_tree, value_text}
use Rattle.cb_wire.proofs.Printed.{text_then, value_text-is, value_text-then}

pub position-text : (p : Position) → value_text (position_tree p)
    ≡ codes "{\"line\":" ++ (decimal p.line ++ (codes ",\"character\":"
    ++ (decimal p.character ++ codes "}")))
unfolding escape_byte
position-text p = value_text-is (position_tree p)

pub position-length : (p : Position) → length (value_text (position_tree p))
    ≡ length (decimal p.line) + length (decimal p.character) + 22
position-length p =
    omega (
      arith,
      ap length (position-text p),
      length-append (decimal p.line)
          (codes ",\"character\":" ++ (decimal p.character ++ codes "}")),
      length-append (decimal p.character) (codes "}"),
    )

pub range-text : (r : Range) → value_text (range_tree r)
    ≡ codes "{\"start\":" ++ (value_text (position_tree r.start) ++ (codes ",\"end\":"
    ++ (value_text (position_tree r.end) ++ codes "}")))
unfolding escape_byte
range-text r =
    let start = position_tree r.start in
    let end = position_tree r.end in
    value_text-is (range_tree r)
    ∙ ap (λ l. codes "{\"start\":" ++ l)
    (sym (value_text-then start (codes ",\"end\":" ++ text_then end (codes "}"))))
    ∙ ap (λ l. codes "{\"start\":" ++ (value_text start ++ (codes ",\"end\":" ++ l)))
    (sym (value_text-then end (codes "}")))

pub range-length : (r : Range) → length (value_text (range_tree r))
    ≡ length (value_text (position_tree r.start)) + length (value_text (position_tree r.end)) + 17
range-length r =
    let start = value_text (position_tree r.start) in
    let end = value_text (position_tree r.end) in
    omega (
      arith,
      ap length (range-text r),
      length-append start (codes ",\"end\":" ++ (end ++ codes "}")),
      length-append end (codes "}"),
    )

-- a range by the digits of its four numbers
abbrev pub range_by : (a b c d : List ℕ) → List ℕ
range_by a b c d =
    codes "{\"start\":{\"line\":" ++ (a ++ (codes ",\"character\":" ++ (b
    ++ (codes "},\"end\":{\"line\":" ++ (c ++ (codes ",\"character\":" ++ (d ++ codes "}}")))))))

pub range-numbers : (r : Range) → value_text (range_tree r)
    ≡ range_by (decimal r.start.line) (decimal r.start.character) (decimal r.end.line)
    (decimal r.end.character)
unfolding escape_byte
range-numbers r = value_text-is (range_tree r)
