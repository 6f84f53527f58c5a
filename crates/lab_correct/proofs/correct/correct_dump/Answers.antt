use Rattle.std.proofs.Common.{◌≡◌, ◌≤◌, IfSome, take, sym, subst}
use Rattle.std.specs.Vec.{vec_capacity}
use Rattle.page_layout.specs.declared.geometry.Geometry.{Geometry}
use Rattle.page_layout.specs.Geometry.{row_count}
use Rattle.page_code.specs.Chip.{IsChipOf}
use Rattle.lab_dump.specs.Scan.{IsTaken}
use Rattle.lab_dump.proofs.ScanLemmas.{if_more}
use Rattle.lab_correct.specs.Correcting.{ShowsCorrected}
use Rattle.lab_correct.specs.Corrected.{IsCorrected, IsOwnCorrected}
use Rattle.lab_correct.proofs.ChipLemmas.{one_geometry, sized_as}
use Rattle.lab_correct.proofs.TakenLemmas.{shows_none, stands_none}
use Rattle.lab_correct.proofs.DoneLemmas.{done, own_done}
use Rattle.lab_correct.proofs.correct.correct_dump.Goals as goal

pub scan-requires-clause-shows : goal.scan-requires-clause-shows
scan-requires-clause-shows g c = λ image. shows_none c.args.geometry.now (g.T.Pieces.pieces c.args.target) c.args.room.losses.items c.requires.room.none

pub scan-requires-clause-stands : goal.scan-requires-clause-stands
scan-requires-clause-stands g c =
    let geo = c.args.geometry.now in
    let chip = c.raw.result.now in
    let pieces = g.T.Pieces.pieces c.args.target in
    let of : IsChipOf geo chip = subst (IsChipOf geo) (sym c.raw.ensures) c.requires.chip in
    let room : row_count chip ≤ vec_capacity c.args.room.losses = subst (λ (k : Geometry). row_count k ≤ vec_capacity c.args.room.losses) (sym c.raw.ensures) c.requires.room.places in
    stands_none geo chip c.args.room.scratch.items c.args.room.losses.items (vec_capacity c.args.room.losses) pieces of c.requires.room.scratch c.requires.room.none room (sized_as geo chip pieces of c.requires.pieces)

pub returns-in-Ok-clause-ok : goal.returns-in-Ok-clause-ok
returns-in-Ok-clause-ok g c =
    let geo = c.args.geometry.now in
    let chip = c.raw.result.now in
    let taker = c.scan.new.taker in
    let pieces = g.T.Pieces.pieces taker.target in
    let known = g.R.DumpReader.remaining c.args.reader.now in
    let of : IsChipOf geo chip = subst (IsChipOf geo) (sym c.raw.ensures) c.requires.chip in
    let stands = c.in-Ok.ensures.stands in
    let same : taker.geometry ≡ geo = one_geometry taker.geometry geo chip stands.of of in
    let made : IfSome known (IsCorrected taker.geometry chip pieces taker.turned taker.touched taker.losses.items) =
    if_more known (IsTaken chip (λ image. ShowsCorrected taker.geometry (row_count chip) (take (row_count chip) image) pieces taker.turned taker.touched taker.losses.items))
    (IsCorrected taker.geometry chip pieces taker.turned taker.touched taker.losses.items) c.in-Ok.ensures.taken
    (λ bytes taken. done taker.geometry chip _ _ _ _ _ pieces bytes stands taken) in
    subst (λ (k : Geometry). IfSome known (IsCorrected geo k pieces taker.turned taker.touched taker.losses.items)) c.raw.ensures
    (subst (λ (h : Geometry). IfSome known (IsCorrected h chip pieces taker.turned taker.touched taker.losses.items)) same made)

pub returns-in-Ok-clause-own : goal.returns-in-Ok-clause-own
returns-in-Ok-clause-own g c =
    let geo = c.args.geometry.now in
    let chip = c.raw.result.now in
    let taker = c.scan.new.taker in
    let pieces = g.T.Pieces.pieces taker.target in
    let of : IsChipOf geo chip = subst (IsChipOf geo) (sym c.raw.ensures) c.requires.chip in
    let stands = c.in-Ok.ensures.stands in
    subst (λ (h : Geometry). IsOwnCorrected h pieces taker.turned taker.touched taker.losses.items) (one_geometry taker.geometry geo chip stands.of of) (own_done taker.geometry chip _ _ _ _ _ pieces stands)
