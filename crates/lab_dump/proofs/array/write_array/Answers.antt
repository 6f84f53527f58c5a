use Rattle.std.proofs.Common.{◌≡◌, ℕ, List, [], Option, IfSome, Err, ap, length, true, false, sym, subst, ◌∙◌}
use Rattle.page_layout.specs.Geometry.{row_count}
use Rattle.page_layout.specs.Array.{zeros}
use Rattle.lab_dump.specs.Scan.{IsTaken}
use Rattle.lab_dump.specs.declared.held.Held.{Held}
use Rattle.lab_dump.specs.Doubting.{IsDoubting}
use Rattle.lab_dump.specs.Unmade.{IsUnmade}
use Rattle.lab_dump.specs.Until.{until}
use Rattle.lab_dump.specs.Writing.{ShowsSound, WritingStands}
use Rattle.lab_dump.specs.Written.{IsArrayWritten}
use Rattle.lab_dump.proofs.ScanLemmas.{if_more, make_source, make_target, unmade}
use Rattle.lab_dump.proofs.WritingLemmas.{nothing_yet, stands_first}
use Rattle.lab_dump.proofs.WrittenLemmas.{written_sound}
use Rattle.lab_dump.proofs.array.write_array.Goals as goal

pub scan-requires : goal.scan-requires
scan-requires g c =
    let room = c.requires.room in
    let file = g.T.Pieces.pieces c.args.target in
    let blank = zeros c.args.geometry.now in
    let none = stands_first c.args.geometry.now file c.requires.pieces in
    let stands = subst (λ (hs : List Held). WritingStands c.args.geometry.now hs blank file) (sym room.held) none in
    record {
      stands = (subst (λ (bs : List ℕ). WritingStands c.args.geometry.now c.args.room.held.items bs file) (sym room.blank) stands, room.stands);
      shows = λ image.
          let geo = c.args.geometry.now in
          let pieces = g.T.Pieces.pieces c.args.target in
          let shown = until geo c.args.until image in
          (subst (λ (hs : List Held). ShowsSound geo 0 shown hs pieces) (sym c.requires.room.held) (nothing_yet geo shown [] (λ row. []) pieces c.requires.pieces), c.requires.room.shows image);
      body_whole = ap length c.deref_mut.ensures.value ∙ room.page.body_size;
      spare_whole = ap length c.deref_mut-2.ensures.value ∙ room.page.spare_size;
    }

pub returns-in-Ok : goal.returns-in-Ok
returns-in-Ok g c =
    let geo = c.args.geometry.now in
    let taker = c.scan.new.taker in
    let pieces = g.T.Pieces.pieces taker.target in
    let last = c.args.until in
    let left = c.conclude.result.left in
    let remaining = g.R.DumpReader.remaining c.args.reader.now in
    let same : taker.until ≡ last = c.in-Ok.ensures.fixed in
    let taken = subst (λ (u : Option ℕ). IfSome remaining (IsTaken geo (λ image. ShowsSound geo (row_count geo) (until geo u image) taker.held.items pieces × IsDoubting geo (row_count geo) image taker.doubting))) same c.in-Ok.ensures.taken in
    let written : IfSome remaining (IsArrayWritten geo last false pieces taker.held.items left) =
    if_more remaining (IsTaken geo (λ image. ShowsSound geo (row_count geo) (until geo last image) taker.held.items pieces × IsDoubting geo (row_count geo) image taker.doubting)) (IsArrayWritten geo last false pieces taker.held.items left) taken
    (λ bytes all. written_sound geo last taker.held.items taker.zeros.items taker.doubting left pieces bytes c.in-Ok.ensures.stands.0 c.conclude.ensures.left all) in
    record {
      ok = subst (λ t. IfSome remaining (IsArrayWritten geo last false (g.T.Pieces.pieces t) c.conclude.result.held.items left)) (sym c.conclude.ensures.target)
          (subst (λ (hs : List Held). IfSome remaining (IsArrayWritten geo last false pieces hs left)) (sym c.conclude.ensures.held) written);
      sized = ap (λ (hs : List Held). length hs) c.conclude.ensures.held ∙ c.in-Ok.ensures.stands.0.size;
      err = tt;
      source = tt;
      target = tt;
    }

pub returns : goal.returns
returns g c =
    let geo = c.args.geometry.now in
    let told = c.not_written.ensures in
    let remaining = g.R.DumpReader.remaining c.args.reader.now in
    record {
      ok = tt;
      sized = tt;
      err = subst (λ f. IfSome remaining (IsUnmade geo f)) (sym told.fault) (unmade geo remaining c.in-Err.fault c.in-Err.ensures.untaken);
      source = λ is. c.scan.ensures.source (c.in-Err.is ∙ ap Err (make_source c.in-Err.fault (sym told.fault ∙ is)));
      target = λ is. subst (λ t. g.T.Pieces.failed t ≡ true) (sym told.target) (c.scan.ensures.stopped (c.in-Err.is ∙ ap Err (make_target c.in-Err.fault (sym told.fault ∙ is))));
    }
