use Rattle.std.proofs.Common.{◌∙◌, ◌+◌, length, drop, sym, subst, arith}
use Rattle.std.proofs.lemmas.List.{take_at}
use Rattle.page_layout.specs.Page.{page}
use Rattle.lab_dump.proofs.ScanLemmas.{ok_map}
use Rattle.lab_mend.specs.declared.repairing.RepairAsked.{RepairAsked}
use Rattle.lab_mend.specs.Repairing.{IsOwn, ShowsRepair}
use Rattle.lab_mend.proofs.repairing.RepairingTaker.take.Goals as goal

pub write-requires-clause-own : goal.write-requires-clause-own
write-requires-clause-own g c =
    let back = take_at c.write_page-turn.new.bytes (drop (length c.write_page-turn.new.bytes) c.args.self.now.scratch.items) c.args.self.now.scratch.len (omega arith) in
    subst (IsOwn c.args.geometry.now c.args.self.now.asked c.args.row c.write_page-turn.result) (sym back) c.write_page-turn.ensures.own

pub returns-clause-shows : goal.returns-clause-shows
returns-clause-shows g c =
    let back = take_at c.write_page-turn.new.bytes (drop (length c.write_page-turn.new.bytes) c.args.self.now.scratch.items) c.args.self.now.scratch.len (omega arith) in
    let after = c.write.new.self in
    ok_map _ _ c.write.result (λ more image shown at.
    subst (λ (asked : RepairAsked). ShowsRepair asked (c.args.row + 1) image after.mends.items (g.T.Pieces.pieces after.target)) (sym c.write.ensures.asked)
    (more image (page c.args.areas.body.now c.args.areas.spare.now) shown at c.write_page-turn.ensures.turn (back ∙ c.write_page-turn.ensures.piece))) c.write.ensures.shows
