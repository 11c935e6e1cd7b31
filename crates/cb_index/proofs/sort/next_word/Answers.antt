use Rattle.std.proofs.Common.{◌≡◌, ◌∙◌, ◌++◌, ◌<◌, sym, length, take}
use Rattle.std.proofs.lemmas.List.{take-append-drop}
use Rattle.std.proofs.lemmas.Slice.Eq.{bytes_eq-Decides}
use Rattle.cb_scan.proofs.KeyOrder.{by_recursion}
use Rattle.cb_index.proofs.sort.next_word.Goals as goal

pub returns : goal.returns
returns c =
    let front = c.args.front.now in
    let key = c.in_ok-plain_key.field-0.now in
    let rest = c.in_ok-rest.rest.now in
    let n = length front in
    let parted = c.in_ok-rest.ensures.cases in
    let same : take n key ≡ front = (bytes_eq-Decides (take n key) front).0 parted.0 in (
      rest,
      sym c.in_ok-plain_key.ensures ∙ sym (take-append-drop n key)
          ∙ (λ i. same i ++ sym parted.1 i),
      by_recursion (λ b. b < 256) rest c.read_bytes.ensures,
      c.key_prefix.ensures,
    )
