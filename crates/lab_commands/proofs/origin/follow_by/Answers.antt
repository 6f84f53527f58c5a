use Rattle.std.proofs.Common.{◌≡◌, ℕ, List, Option, inl, inr, length, map, ap, sym, subst, ◌∙◌}
use Rattle.std.specs.Borrow.{Bor}
use Rattle.std.proofs.lemmas.List.{length-map, with_items_is}
use Rattle.lab_origin.specs.Traced.{ArePinned, IsOfSome, IsUntraced}
use Rattle.program_words.specs.Met.{texts}
use Rattle.lab_commands.specs.Files.{after_opens}
use Rattle.lab_commands.specs.Merge.{AreOpened, IsSomeUnread}
use Rattle.lab_commands.specs.Origin.{IsOfFailedReading, readings_of}
use Rattle.lab_commands.proofs.MergeLemmas.{failed_one}
use Rattle.lab_commands.proofs.OriginLemmas.{each_opened_before, some_unread_before, told_of_failed_reading, untraced_as}
use Rattle.lab_commands.proofs.UndoneLemmas.{no_more_then, handed}
use Rattle.lab_commands.proofs.origin.follow_by.Goals as goal

pub returns-in_err-dump : goal.returns-in_err-dump
returns-in_err-dump g c =
    rw (handed c.from_residual.result _ c.from_residual.ensures.1) (record {
      followed = tt;
      sized = tt;
      fault = (inl c.in_err-dump.ensures.fault);
      named = inl c.in_err-dump.ensures.fault;
      no_more = c.open_dump.ensures.no_more;
      kept = c.open_dump.ensures.kept;
      opened = tt;
    })

pub returns-in_err-open_readings : goal.returns-in_err-open_readings
returns-in_err-open_readings g c =
    let a = g.F.LabFiles.answers c.args.files.now in
    let b = g.F.LabFiles.answers c.open_dump.new.files in
    let words = c.args.words.now in
    let unread : IsSomeUnread b (readings_of words) c.in_err-open_readings.field-0.0 = subst (λ (ps : List (Bor (List ℕ))). IsSomeUnread b (texts ps) c.in_err-open_readings.field-0.0) c.deref.ensures.value c.in_err-open_readings.ensures.fault in
    let before = some_unread_before a b (readings_of words) _ c.in_ok-dump.ensures.no_more unread in
    rw (handed c.from_residual-in_err-open_readings.result _ c.from_residual-in_err-open_readings.ensures.1) (record {
      followed = tt;
      sized = tt;
      fault = inr (inl before);
      named = inr (inl before);
      no_more = no_more_then _ _ _ c.open_dump.ensures.no_more c.open_readings.ensures.no_more;
      kept = c.open_readings.ensures.kept ∙ c.open_dump.ensures.kept;
      opened = tt;
    })

pub returns-in-Ok-clause-followed : goal.returns-in-Ok-clause-followed
returns-in-Ok-clause-followed g c =
    let a = g.F.LabFiles.answers c.args.files.now in
    let b = g.F.LabFiles.answers c.open_dump.new.files in
    let bytes = g.F.Dump.Dump.bytes in
    let items = c.open_readings.new.readings.items in
    let opened : AreOpened b (readings_of c.args.words.now) (map bytes items) = subst (λ (ps : List (Bor (List ℕ))). AreOpened b (texts ps) (map bytes items)) c.deref.ensures.value c.in_ok-open_readings.ensures.opened in
    record {
      known = bytes c.in_ok-dump.dump;
      readings = map bytes items;
      opened = c.in_ok-dump.ensures.bytes;
      each_opened = each_opened_before a b _ _ c.in_ok-dump.ensures.no_more opened;
      traced = λ all files dumped told. c.in-Ok.ensures.ok all files dumped (ap (map bytes) c.deref_mut.ensures.value ∙ told);
    }

pub returns-clause-fault : goal.returns-clause-fault
returns-clause-fault g c =
    let a = g.F.LabFiles.answers c.args.files.now in
    let b = g.F.LabFiles.answers c.open_dump.new.files in
    let words = c.args.words.now in
    let geometry = c.args.geometry.now in
    let bytes = g.F.Dump.Dump.bytes in
    let failed = g.F.Dump.Dump.failed in
    let f = c.in-Err.fault in
    let items = c.open_readings.new.readings.items in
    let opened : AreOpened b (readings_of words) (map bytes items) = subst (λ (ps : List (Bor (List ℕ))). AreOpened b (texts ps) (map bytes items)) c.deref.ensures.value c.in_ok-open_readings.ensures.opened in
    let count : length c.deref_mut.result.now ≡ length (readings_of words) = ap length c.deref_mut.ensures.value ∙ (sym (length-map items bytes) ∙ opened.count) in
    let of : IsOfSome (length (readings_of words)) f = subst (λ (n : ℕ). IsOfSome n f) count c.in-Err.ensures.reading in
    let odd : IsUntraced geometry (bytes c.in_ok-dump.dump) (map bytes items) f = subst (λ (known : List (Option (List ℕ))). IsUntraced geometry (bytes c.in_ok-dump.dump) known f) (ap (map bytes) c.deref_mut.ensures.value) c.in-Err.ensures.err in
    let pinned = c.in-Err.ensures.pinned in
    let dump_failed = failed c.trace_origins.new.dump in
    let each_failed = map failed c.trace_origins.new.readings in
    inr (inr (untraced_as a words geometry (bytes c.in_ok-dump.dump) (map bytes items) f c.origin_told.result c.in_ok-dump.ensures.bytes (each_opened_before a b _ _ c.in_ok-dump.ensures.no_more opened) of odd
    (λ is. c.open_dump.ensures.fails c.trace_origins.new.dump (subst (ArePinned dump_failed each_failed) is pinned))
    (λ i is. let found = failed_one failed _ i (subst (ArePinned dump_failed each_failed) is pinned) in c.open_dump.ensures.fails found.0 found.1) c.origin_told.ensures))

pub returns-clause-named : goal.returns-clause-named
returns-clause-named g c =
    let words = c.args.words.now in
    let failed = g.F.Dump.Dump.failed in
    let readings = c.trace_origins.new.readings in
    let now = with_items_is c.open_readings.new.readings readings (c.trace_origins.auto.readings ∙ c.deref_mut.ensures.len) in
    inr (inr (subst (λ rs. IsOfFailedReading (map failed rs) words c.origin_told.result) (sym now) (told_of_failed_reading words _ (map failed readings) c.in-Err.fault c.origin_told.result c.in-Err.ensures.pinned c.origin_told.ensures)))

pub returns-in-Ok-clause-no_more : goal.returns-in-Ok-clause-no_more
returns-in-Ok-clause-no_more g c = no_more_then _ _ _ c.open_dump.ensures.no_more c.open_readings.ensures.no_more

pub returns-in-Ok-clause-kept : goal.returns-in-Ok-clause-kept
returns-in-Ok-clause-kept g c = c.open_readings.ensures.kept ∙ c.open_dump.ensures.kept

pub returns-clause-no_more : goal.returns-clause-no_more
returns-clause-no_more g c = no_more_then _ _ _ c.open_dump.ensures.no_more c.open_readings.ensures.no_more

pub returns-clause-kept : goal.returns-clause-kept
returns-clause-kept g c = c.open_readings.ensures.kept ∙ c.open_dump.ensures.kept

pub returns-in-Ok-clause-opened : goal.returns-in-Ok-clause-opened
returns-in-Ok-clause-opened g c =
    let between = g.F.LabFiles.opened c.open_dump.new.files in
    c.in_ok-open_readings.ensures.once ∙ (ap (λ (ps : List (Bor (List ℕ))). after_opens (length ps) between) c.deref.ensures.value ∙ ap (after_opens (length c.args.words.now.readings.items)) c.in_ok-dump.ensures.opened)
