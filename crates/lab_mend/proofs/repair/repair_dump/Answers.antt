use Rattle.std.proofs.Common.{◌≡◌, List, IfSome, sym, subst}
use Rattle.page_layout.specs.Geometry.{row_count}
use Rattle.lab_dump.specs.Scan.{IsTaken}
use Rattle.lab_dump.proofs.ScanLemmas.{if_more}
use Rattle.lab_mend.specs.declared.repairing.Mend.{Mend}
use Rattle.lab_mend.specs.declared.repairing.RepairAsked.{RepairAsked}
use Rattle.lab_mend.proofs.RepairedLemmas.{same_asked}
use Rattle.lab_mend.specs.Repairing.{RepairingStands, ShowsRepair}
use Rattle.lab_mend.specs.Repaired.{IsRepaired}
use Rattle.lab_mend.proofs.RepairingLemmas.{shows_first}
use Rattle.lab_mend.proofs.RepairedLemmas.{repaired}
use Rattle.lab_mend.proofs.repair.repair_dump.Goals as goal

pub scan-requires-clause-shows : goal.scan-requires-clause-shows
scan-requires-clause-shows g c = λ image.
    let pieces = g.T.Pieces.pieces c.args.target in
    subst (λ (ms : List Mend). ShowsRepair c.args.asked 0 image ms pieces) (sym c.requires.room.none) (shows_first c.args.asked image pieces)

pub returns-in-Ok-clause-ok : goal.returns-in-Ok-clause-ok
returns-in-Ok-clause-ok g c =
    let geo = c.args.geometry.now in
    let taker = c.scan.new.taker in
    let pieces = g.T.Pieces.pieces taker.target in
    let asked = c.args.asked in
    let same : taker.asked ≡ asked = same_asked taker.asked asked c.in-Ok.ensures.asked c.in-Ok.ensures.fixed in
    let stands = subst (λ (r : RepairAsked). RepairingStands geo r (row_count geo) taker.mends.items taker.scratch.items pieces) same c.in-Ok.ensures.stands.0 in
    let taken = subst (λ (r : RepairAsked). IfSome (g.R.DumpReader.remaining c.args.reader.now) (IsTaken geo (λ image. ShowsRepair r (row_count geo) image taker.mends.items pieces))) same c.in-Ok.ensures.taken in
    if_more (g.R.DumpReader.remaining c.args.reader.now) (IsTaken geo (λ image. ShowsRepair asked (row_count geo) image taker.mends.items pieces)) (IsRepaired geo asked pieces taker.mends.items) taken
    (λ bytes taken. repaired geo asked taker.mends.items taker.scratch.items pieces bytes stands taken)

pub returns-in-Ok-clause-own : goal.returns-in-Ok-clause-own
returns-in-Ok-clause-own g c =
    let geo = c.args.geometry.now in
    let taker = c.scan.new.taker in
    let pieces = g.T.Pieces.pieces taker.target in
    let same : taker.asked ≡ c.args.asked = same_asked taker.asked c.args.asked c.in-Ok.ensures.asked c.in-Ok.ensures.fixed in
    let stands = subst (λ (r : RepairAsked). RepairingStands geo r (row_count geo) taker.mends.items taker.scratch.items pieces) same c.in-Ok.ensures.stands.0 in
    record { listed = stands.listed; own = stands.own }
