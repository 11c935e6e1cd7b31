use Rattle.cb_tags.proofs.Anchors.{address-read, address-one, address-written}
use Rattle.cb_tags.proofs.laws.addresses_are_read_back.Goals as goal

pub returns : goal.returns
returns c = record { read_back = address-read; one_text = address-one; written = address-written }
