-- Where a header and a record end.
use Rattle.std.proofs.Common.{ℕ, List, length, arith}
use Rattle.std.proofs.lemmas.Grind.{common_steps}
use Rattle.capture_formats.specs.Pcap.{pcap_item, IsItemWithin}
use Rattle.capture_formats.specs.declared.header.PcapHead.{PcapHead}

-- a record that is found ends within the bytes, and its frame within the record
pub pcap_item-within : (head : PcapHead) (bytes : List ℕ) → IsItemWithin (pcap_item head bytes) (length bytes)
unfolding pcap_item
pcap_item-within head bytes = grind (arith, common_steps)
