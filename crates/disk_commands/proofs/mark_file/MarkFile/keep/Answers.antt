use Rattle.std.proofs.Common.{is_ok, subst, sym}
use Rattle.disk_commands.proofs.MarkFileLemmas.{Begins, Puts, kept_first, kept_later}
use Rattle.disk_commands.proofs.mark_file.MarkFile.keep.Goals as goal
use Rattle.disk_commands.proofs.mark_file.MarkFile.keep.Goals.{then-self+in_ok-begin, else-self}

pub returns-clause-keeps : goal.returns-clause-keeps
returns-clause-keeps g c =
    let held = g.F.ByteFile.held in
    let honest = g.F.ByteFile.honest in
    let puts : Puts held honest c.if-self.self c.args.mark (is_ok c.put.result) c.put.new.self =
    record { writes = c.put.ensures.writes; as_honest = c.put.ensures.honest; same_second = c.put.ensures.second; same_fresh = c.put.ensures.fresh } in
    elim c.if-self.branch [
      | then-self+in_ok-begin w ↦
          kept_first held honest c.args.self.now c.if-self.self c.put.new.self c.args.mark (is_ok c.put.result) w.if-self.true
          (subst (Begins held honest c.args.self.now c.args.mark) (sym w.self-is)
          (record { begins = w.in_ok-begin.ensures.begins; as_honest = w.in_ok-begin.ensures.honest; other = w.in_ok-begin.ensures.second; begun = w.in_ok-begin.ensures.fresh })) puts
      | else-self w ↦
          kept_later held honest c.args.self.now c.put.new.self c.args.mark (is_ok c.put.result) w.if-self.false
          (subst (λ old. Puts held honest old c.args.mark (is_ok c.put.result) c.put.new.self) w.self-is puts)
    ]
