use Rattle.std.proofs.Common.{◌≡◌, ◌<◌, ℕ, List, inl, inr, le_refl, length, map, ap, sym, subst, ◌∙◌, rules}
use Rattle.std.specs.Borrow.{Bor}
use Rattle.std.proofs.lemmas.List.{length-map, with_items_is}
use Rattle.lab_mend.specs.declared.merge.MergeFault.TheVariants as merge
use Rattle.lab_mend.specs.Merged.{IsOfReading, IsPinned}
use Rattle.program_words.specs.Met.{texts}
use Rattle.lab_commands.specs.Files.{OpensSome, after_opens}
use Rattle.lab_commands.specs.Merge.{IsOfFailed, IsSomeUnread, TellsFault, dumps_of}
use Rattle.lab_commands.proofs.MergeLemmas.{failed_one, told_of_failed, unmerged_as}
use Rattle.lab_commands.proofs.UndoneLemmas.{handed, no_more_then, unwritten_before}
use Rattle.lab_commands.proofs.merge.join_by.Goals as goal

pub returns-in-Err-clause-fault : goal.returns-in-Err-clause-fault
returns-in-Err-clause-fault g c =
    let a = g.F.LabFiles.answers c.args.files.now in
    let words = c.args.words.now in
    let f = c.in-Err.unmerged.fault in
    let items = c.open_all.new.readers.items in
    let remaining = g.F.Reader.DumpReader.remaining in
    let count : length c.deref_mut.result.now ≡ length (dumps_of words) =
    ap length c.deref_mut.ensures.value ∙ (sym (length-map items remaining) ∙ (c.in_ok-open_all.ensures.opened.count ∙ ap (λ (ds : List (Bor (List ℕ))). length (texts ds)) c.deref.ensures.value)) in
    let some : 0 < length c.deref.result.now = subst (λ (ds : List (Bor (List ℕ))). 0 < length ds) (sym c.deref.ensures.value) c.requires.some in
    let pinned = c.in-Err.ensures.pinned in
    let failed = map g.F.Reader.DumpReader.failed c.merge_dumps.new.readers in
    let written = g.F.Target.Pieces.failed c.in-Err.unmerged.target in
    let reads : (i : ℕ) → f ≡ merge.Source i → a.reads_fail = λ i is.
    let found = failed_one g.F.Reader.DumpReader.failed _ i (subst (IsPinned failed written) is pinned) in
    c.in_ok-open_all.ensures.fails some found.0 found.1 in
    let writes : f ≡ merge.Target → a.writes_fail = λ is. c.in_ok-open_all.ensures.no_more.writes_same (c.in_ok-target.ensures.fails c.in-Err.unmerged.target (subst (IsPinned failed written) is pinned)) in
    inr
    (inr
    (unmerged_as a (dumps_of words) c.args.geometry.now words.out.now (map g.F.Reader.DumpReader.remaining c.open_all.new.readers.items) f
    c.merge_told.result (search rules) (subst (λ (n : ℕ). IsOfReading n f) count c.in-Err.ensures.reading) (search rules) reads writes
    (search rules)))

pub returns-in-Err-clause-named : goal.returns-in-Err-clause-named
returns-in-Err-clause-named g c =
    let words = c.args.words.now in
    let f = c.in-Err.unmerged.fault in
    let failed = g.F.Reader.DumpReader.failed in
    let readers = c.merge_dumps.new.readers in
    let now = with_items_is c.open_all.new.readers readers (c.merge_dumps.auto.readers ∙ c.deref_mut.ensures.len) in
    let told : TellsFault f (dumps_of words) words.out.now c.merge_told.result = search rules in
    inr (inr (subst (λ rs. IsOfFailed (map failed rs) (dumps_of words) c.merge_told.result) (sym now) (told_of_failed (dumps_of words) words.out.now (map failed readers) _ f c.merge_told.result c.in-Err.ensures.pinned told)))

pub returns-in_err-open_all : goal.returns-in_err-open_all
returns-in_err-open_all g c =
    let a = g.F.LabFiles.answers c.args.files.now in
    let told = c.in_err-open_all.field-0.0 in
    let unread : IsSomeUnread a (dumps_of c.args.words.now) told = subst (λ (ds : List (Bor (List ℕ))). IsSomeUnread a (texts ds) told) c.deref.ensures.value c.in_err-open_all.ensures.fault in
    rw (handed c.from_residual.result _ c.from_residual.ensures.1) (record {
      made = tt;
      fault = inl unread;
      named = inl unread;
      no_more = c.open_all.ensures.no_more;
      beside = tt;
      kept = c.open_all.ensures.kept;
      opened = tt;
      some = subst (λ (ds : List (Bor (List ℕ))). OpensSome (length ds) (g.F.LabFiles.opened c.args.files.now) (g.F.LabFiles.opened c.open_all.new.files)) c.deref.ensures.value c.in_err-open_all.ensures.some;
    })

pub returns-in_err-target : goal.returns-in_err-target
returns-in_err-target g c =
    let a = g.F.LabFiles.answers c.args.files.now in
    let b = g.F.LabFiles.answers c.open_all.new.files in
    let unmade = unwritten_before a b c.args.words.now.out.now _ c.open_all.ensures.no_more c.in_err-target.ensures.fault in
    rw (handed c.from_residual-in_err-target.result _ c.from_residual-in_err-target.ensures.1) (record {
      made = tt;
      fault = inr (inl unmade);
      named = inr (inl unmade);
      no_more = no_more_then _ _ _ c.open_all.ensures.no_more c.create_beside.ensures.no_more;
      beside = tt;
      kept = c.in_err-target.ensures.kept ∙ c.open_all.ensures.kept;
      opened = tt;
      some = (length c.args.words.now.dumps.items, le_refl _, c.create_beside.ensures.opened ∙ (c.in_ok-open_all.ensures.once ∙ ap (λ (ds : List (Bor (List ℕ))). after_opens (length ds) (g.F.LabFiles.opened c.args.files.now)) c.deref.ensures.value));
    })

pub returns-in-Ok-clause-no_more : goal.returns-in-Ok-clause-no_more
returns-in-Ok-clause-no_more g c = no_more_then _ _ _ c.open_all.ensures.no_more c.create_beside.ensures.no_more

pub returns-in-Ok-clause-beside : goal.returns-in-Ok-clause-beside
returns-in-Ok-clause-beside g c = c.in_ok-target.ensures.made ∙ c.open_all.ensures.kept

pub returns-in-Err-clause-no_more : goal.returns-in-Err-clause-no_more
returns-in-Err-clause-no_more g c = no_more_then _ _ _ (no_more_then _ _ _ c.open_all.ensures.no_more c.create_beside.ensures.no_more) c.discard.ensures.no_more

pub returns-in-Err-clause-kept : goal.returns-in-Err-clause-kept
returns-in-Err-clause-kept g c = c.discard.ensures.kept ∙ (c.in_ok-target.ensures.made ∙ c.open_all.ensures.kept)

pub returns-in-Ok-clause-opened : goal.returns-in-Ok-clause-opened
returns-in-Ok-clause-opened g c = c.in_ok-target.ensures.opened ∙ (c.in_ok-open_all.ensures.once ∙ ap (λ (ds : List (Bor (List ℕ))). after_opens (length ds) (g.F.LabFiles.opened c.args.files.now)) c.deref.ensures.value)

pub returns-in-Err-clause-some : goal.returns-in-Err-clause-some
returns-in-Err-clause-some g c =
    let each = c.in_ok-open_all.ensures.once ∙ ap (λ (ds : List (Bor (List ℕ))). after_opens (length ds) (g.F.LabFiles.opened c.args.files.now)) c.deref.ensures.value in
    (length c.args.words.now.dumps.items, le_refl _, c.discard.ensures.opened ∙ (c.in_ok-target.ensures.opened ∙ each))
