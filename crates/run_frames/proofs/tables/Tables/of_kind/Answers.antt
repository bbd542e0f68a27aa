use Rattle.std.proofs.Common.{sym, subst}
use Rattle.cap_stats.specs.declared.kind.StatKind.{StatKind}
use Rattle.run_frames.specs.Tables.{IsTable}
use Rattle.run_frames.proofs.tables.Tables.of_kind.Goals as goal

pub returns-in-ConvTcp : goal.returns-in-ConvTcp
returns-in-ConvTcp c = λ plan trees are. subst (λ (k : StatKind). IsTable plan k trees c.args.self.now.conv_tcp) (sym c.in-ConvTcp.is) are.conv_tcp

pub returns-in-ConvIp : goal.returns-in-ConvIp
returns-in-ConvIp c = λ plan trees are. subst (λ (k : StatKind). IsTable plan k trees c.args.self.now.conv_ip) (sym c.in-ConvIp.is) are.conv_ip

pub returns-in-Phs : goal.returns-in-Phs
returns-in-Phs c = λ plan trees are. subst (λ (k : StatKind). IsTable plan k trees c.args.self.now.phs) (sym c.in-Phs.is) are.phs
