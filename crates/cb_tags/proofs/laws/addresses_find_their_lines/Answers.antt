use Rattle.cb_scan.specs.Lines.{line_text}
use Rattle.cb_tags.proofs.Anchors.{address-read}
use Rattle.cb_tags.proofs.OneLine.{line_text-one}
use Rattle.cb_tags.proofs.Places.{finds-line}
use Rattle.cb_tags.proofs.laws.addresses_find_their_lines.Goals as goal

pub returns : goal.returns
returns c = record {
  read_back = λ source n. address-read (line_text source n)
      (line_text-one source n);
  found = finds-line;
}
