-- What of a frame can bear on how later frames are read: its fragments, and its packets of conversations; and where each frame begins.
use Rattle.std.specs.Prelude.{ℕ, List}
use Rattle.pk_base.specs.declared.heads.FragmentHead.{FragmentHead}
use Rattle.pk_base.specs.declared.heads.PacketHead.{PacketHead}
use Rattle.pk_base.specs.declared.heads.PortsHead.{PortsHead}
use Rattle.pk_base.specs.declared.heads.TcpHead.{TcpHead}

-- the frame's number, what the headers say, and the captured bytes behind them
pub data Event : Type 0 where
  NewFrame : Event
  Piece : ℕ → FragmentHead → List ℕ → Event
  Udp : ℕ → PacketHead → PortsHead → List ℕ → Event
  Tcp : ℕ → PacketHead → TcpHead → List ℕ → Event
