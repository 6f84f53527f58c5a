use Rattle.std.proofs.Common.{◌≡◌, ℕ, ◌*◌, List, length, map}
use Rattle.std.specs.Prelude.{vec_capacity}
use Rattle.page_layout.specs.Geometry.{page_bytes, row_count}
use Rattle.lab_mend.specs.InStep.{AreAt}
use Rattle.lab_mend.specs.Merging.{AreRowsListed, AreTried, MergingStands, ShowsMerge, tried_below, unsound_rows_below}
use Rattle.lab_dump.specs.Rooms.{HasRowRoom}
use Rattle.lab_mend.specs.Tried.{IsTrialRoom}
use Rattle.lab_mend.specs.Merged.{pages_of_row}
use Rattle.lab_mend.proofs.merge.merge_rows.Given as goal

abbrev pub invariant-loop-row : goal.invariant-loop-row
invariant-loop-row g l =
    record {
      count : length l.readers ≡ length l.initial.readers;
      room : length l.pages ≡ length l.initial.pages;
      stands : MergingStands l.geometry l.row l.merging.conflicts.items l.merging.tally l.merging.scratch.items (g.T.Pieces.pieces l.merging.target);
      shows : (files : List (List ℕ)) → AreAt (map g.R.DumpReader.remaining l.initial.readers) files 0 → ShowsMerge l.geometry (pages_of_row l.geometry files) l.row l.merging.conflicts.items l.merging.tally (g.T.Pieces.pieces l.merging.target);
      unsound : (files : List (List ℕ)) → AreAt (map g.R.DumpReader.remaining l.initial.readers) files 0 → l.merging.unsound.items ≡ unsound_rows_below l.geometry (pages_of_row l.geometry files) l.row;
      listed : AreRowsListed l.row l.merging.unsound.items;
      tried : (files : List (List ℕ)) → AreAt (map g.R.DumpReader.remaining l.initial.readers) files 0 → l.merging.tried.items ≡ tried_below l.geometry (pages_of_row l.geometry files) l.row;
      tried_listed : AreTried l.row l.merging.tried.items;
      tried_room : HasRowRoom (row_count l.geometry) l.row l.merging.tried.items (vec_capacity l.merging.tried);
      trial_room : IsTrialRoom l.geometry (length l.readers) l.merging.room;
      conflicts_room : HasRowRoom (row_count l.geometry) l.row l.merging.conflicts.items (vec_capacity l.merging.conflicts);
      unsound_room : HasRowRoom (row_count l.geometry) l.row l.merging.unsound.items (vec_capacity l.merging.unsound);
      read : (files : List (List ℕ)) → AreAt (map g.R.DumpReader.remaining l.initial.readers) files 0 → AreAt (map g.R.DumpReader.remaining l.readers) files (l.row * page_bytes l.geometry);
    }
