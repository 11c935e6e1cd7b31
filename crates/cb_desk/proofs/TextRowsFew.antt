-- How many rows of a text there can be.
use Rattle.std.proofs.Common.{◌≤◌, ℕ, ◌*◌, List, [], ◌∷◌, length, length-append, arith, suc-mul}
use Rattle.std.specs.List.{AllByRecursion, flat_map, range_with_len}
use Rattle.std.proofs.lemmas.List.{length-map}
use Rattle.std.proofs.lemmas.List.FromFn.{length-range_with_len}
use Rattle.bstr.specs.Text.{lines_of, without_terminator}
use Rattle.cb_scan.specs.Lines.{lines, line_text}
use Rattle.cb_scan.proofs.LineTable.{lines-few}
use Rattle.cb_desk.specs.declared.bounds.TheConstants.{MOST_BYTES, MOST_FILES}
use Rattle.cb_desk.specs.Answer.{text_rows_in, line_row}
use Rattle.cb_desk.specs.Search.{holds, lines_with}
use Rattle.cb_desk.specs.World.{AreValidFiles, File, widest_bounds}
use Rattle.cb_desk.proofs.Valid.{length-kept}

-- no file has more rows than bytes
few-in : (p : List ℕ) (f : File) → length (text_rows_in p f) ≤ length f.bytes
few-in p f =
    let kept =
    length-kept (λ n. holds p (line_text f.bytes n)) (range_with_len 1 (length (lines f.bytes))) in
    omega (
      arith,
      length-map (lines_with p f.bytes) (line_row f.name f.bytes),
      kept,
      length-range_with_len 1 (length (lines f.bytes)),
      length-map (lines_of f.bytes) without_terminator,
      lines-few f.bytes,
    )

few : (p : List ℕ) (files : List File)
    → AllByRecursion (λ (f : File). length f.bytes ≤ MOST_BYTES) files
    → length (flat_map (text_rows_in p) files) ≤ length files * MOST_BYTES
few p [] sizes = omega arith
few p (f ∷ files) sizes =
    let size = sizes.0 in
    omega (
      arith,
      length-append (text_rows_in p f) (flat_map (text_rows_in p) files),
      few-in p f,
      size,
      few p files sizes.1,
      suc-mul (length files) MOST_BYTES,
    )

-- the rows of the files of a world
pub rows-few : (p : List ℕ) (files : List File) → AreValidFiles widest_bounds files
    → length (flat_map (text_rows_in p) files) ≤ MOST_FILES * MOST_BYTES
rows-few p files valid =
    let count = valid.count in let all = few p files valid.sizes in omega (arith, count, all)
