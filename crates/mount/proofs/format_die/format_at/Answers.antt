use Rattle.std.specs.Option.{IfSome}
use Rattle.std.proofs.Common.{◌≡◌, ◌<◌, ◌∙◌, ℕ, List, Option, ap, subst, sym, refl, inl, inr}
use Rattle.std.proofs.lemmas.Result.{err_from_is_err_and}
use Rattle.std.proofs.lemmas.List.{with_items_is}
use Rattle.page_layout.specs.Flash.{Flash}
use Rattle.page_layout.specs.Geometry.{row_count}
use Rattle.bad_blocks.specs.declared.table.TableRow.{TableRow}
use Rattle.bad_blocks.specs.Table.{good_count, unworn}
use Rattle.image_check.proofs.ReadLemmas.{reads_same, risen_over}
use Rattle.mount.specs.Fresh.{is_used, IsFirst, IsFirstPass, IsFresh}
use Rattle.mount.specs.Attempt.{IsTrying, WritesFormat}
use Rattle.mount.specs.Formatted.{Answers, IsTooFewGood, IsNotFresh, IsScanned, Formats}
use Rattle.mount.proofs.CountLemmas.{le_self, no_less, ok_read, as_read, as_programmed}
use Rattle.mount.proofs.FreshLemmas.{start}
use Rattle.mount.proofs.TriesLemmas.{writes_formats, writes_answers, not_for_memory, few_at_once, used_at, scanned_before, bus_not_memory, few_not_bus, few_not_memory, memory_not_bus, fresh_not_bus, fresh_not_memory}
use Rattle.mount.proofs.SurveyLemmas.{unprogrammed}
use Rattle.mount.proofs.format_die.format_at.Goals as goal

-- ---- no memory: the die is as it was

pub returns-in_err-classes : goal.returns-in_err-classes
returns-in_err-classes g c =
    let p = err_from_is_err_and c.from_residual.result c.from_residual.ensures.1 in
    rw (p.1, p.2) (record {
      formats = λ honest. refl;
      answers = refl;
      scanned = inl refl;
      bus = λ is. absurd (memory_not_bus is);
      memory = λ is. refl;
      reads = tt;
      most_reads = reads_same _ _;
      most_programs = reads_same _ _;
      erases = refl;
      geometry = refl;
      honest = refl;
      calm = refl;
      failed = le_self _;
    })

pub returns-in_err-body : goal.returns-in_err-body
returns-in_err-body g c =
    let p = err_from_is_err_and c.from_residual-in_err-body.result c.from_residual-in_err-body.ensures.1 in
    rw (p.1, p.2) (record {
      formats = λ honest. refl;
      answers = refl;
      scanned = inl refl;
      bus = λ is. absurd (memory_not_bus is);
      memory = λ is. refl;
      reads = tt;
      most_reads = reads_same _ _;
      most_programs = reads_same _ _;
      erases = refl;
      geometry = refl;
      honest = refl;
      calm = refl;
      failed = le_self _;
    })

pub returns-in_err-spare : goal.returns-in_err-spare
returns-in_err-spare g c =
    let p = err_from_is_err_and c.from_residual-in_err-spare.result c.from_residual-in_err-spare.ensures.1 in
    rw (p.1, p.2) (record {
      formats = λ honest. refl;
      answers = refl;
      scanned = inl refl;
      bus = λ is. absurd (memory_not_bus is);
      memory = λ is. refl;
      reads = tt;
      most_reads = reads_same _ _;
      most_programs = reads_same _ _;
      erases = refl;
      geometry = refl;
      honest = refl;
      calm = refl;
      failed = le_self _;
    })

-- ---- the survey failed, or what it found keeps the die from being formatted

pub returns-in_err-used : goal.returns-in_err-used
returns-in_err-used g c =
    let p = err_from_is_err_and c.from_residual-in_err-used.result c.from_residual-in_err-used.ensures.1 in
    let made = c.in_err-used.ensures in
    let seen = made.only_reads in
    rw (p.1, p.2, made.only) (record {
      formats = λ honest. tt;
      answers = tt;
      scanned = inl seen.programs_are;
      bus = λ is. made.rose;
      memory = λ is. absurd (bus_not_memory is);
      reads = tt;
      most_reads = made.most_reads;
      most_programs = unprogrammed _ _ _ seen.programs_are;
      erases = seen.erases_are;
      geometry = seen.geometry_is;
      honest = seen.honest_is;
      calm = seen.calm_is;
      failed = seen.failed_is;
    })

pub returns-in_err-require_good : goal.returns-in_err-require_good
returns-in_err-require_good g c =
    let geometry = c.args.geometry.now in
    let need : ℕ = c.need_at-need.result in
    let old : Flash = g.N.PageSource.view.flash c.args.nand.now in
    let table : List TableRow = unworn c.deref.result.now in
    let made = c.in_ok-used.ensures in
    let reads = made.only_reads in
    let left : c.deref.result.now ≡ c.survey.new.classes = c.deref.ensures.value ∙ with_items_is c.in_ok-classes.classes c.survey.new.classes (c.survey.auto.classes ∙ c.deref_mut.ensures.len) in
    let few = c.in_err-require_good.ensures.few in
    let p = err_from_is_err_and c.from_residual-in_err-require_good.result c.from_residual-in_err-require_good.ensures.1 in
    rw (p.1, p.2, few.1) (record {
      formats = λ h.
          (subst (λ (n : ℕ). IsTooFewGood geometry n old (g.N.PageSource.view.flash c.survey.new.source) (good_count table) need) c.need_at-need.ensures
          (subst (λ (f : Flash). IsTooFewGood geometry need old f (good_count table) need) (sym (made.same h)) (few_at_once geometry need old table (ap unworn left ∙ made.table h) few.0)));
      answers = (rw (← c.need_at-need.ensures) few.0, c.need_at-need.ensures, inl reads.programs_are);
      scanned = inl reads.programs_are;
      bus = λ is. absurd (few_not_bus _ _ is);
      memory = λ is. absurd (few_not_memory _ _ is);
      reads = tt;
      most_reads = made.most_reads;
      most_programs = unprogrammed _ _ _ reads.programs_are;
      erases = reads.erases_are;
      geometry = reads.geometry_is;
      honest = reads.honest_is;
      calm = reads.calm_is;
      failed = reads.failed_is;
    })

pub returns-in-Some : goal.returns-in-Some
returns-in-Some g c =
    let geometry = c.args.geometry.now in
    let need : ℕ = c.need_at-need.result in
    let old : Flash = g.N.PageSource.view.flash c.args.nand.now in
    let made = c.in_ok-used.ensures in
    let reads = made.only_reads in
    let row = c.in-Some.row in
    let left : c.deref.result.now ≡ c.survey.new.classes = c.deref.ensures.value ∙ with_items_is c.in_ok-classes.classes c.survey.new.classes (c.survey.auto.classes ∙ c.deref_mut.ensures.len) in
    record {
      formats = λ h.
          let used : IsFirstPass (is_used geometry old.image) 0 (row_count geometry) row =
          subst (λ (found : Option ℕ). IsFirst (is_used geometry old.image) 0 (row_count geometry) found) c.in-Some.is (made.first h) in
          subst (λ (n : ℕ). IsNotFresh geometry n old (g.N.PageSource.view.flash c.survey.new.source) row) c.need_at-need.ensures
          (subst (λ (f : Flash). IsNotFresh geometry need old f row) (sym (made.same h)) (used_at geometry need old (unworn c.deref.result.now) row (ap unworn left ∙ made.table h) c.in_ok-require_good.ensures.ok used));
      answers = (subst (λ found. IfSome found (λ row. row < row_count geometry)) c.in-Some.is made.row, reads.programs_are);
      scanned = inl reads.programs_are;
      bus = λ is. absurd (fresh_not_bus _ is);
      memory = λ is. absurd (fresh_not_memory _ is);
      reads = tt;
      most_reads = made.most_reads;
      most_programs = unprogrammed _ _ _ reads.programs_are;
      erases = reads.erases_are;
      geometry = reads.geometry_is;
      honest = reads.honest_is;
      calm = reads.calm_is;
      failed = reads.failed_is;
    }

-- ---- the die is fresh, and its table is written

pub returns : goal.returns
returns g c =
    let geometry = c.args.geometry.now in
    let need : ℕ = c.need_at-need.result in
    let flash = g.N.PageSource.view.flash in
    let programs = g.N.PageSource.view.programs in
    let old : Flash = flash c.args.nand.now in
    let mid : Flash = flash c.survey.new.source in
    let new : Flash = flash c.write_tables.new.nand in
    let table : List TableRow = unworn c.deref_mut-in-None.result.now in
    let made = c.in_ok-used.ensures in
    let reads = made.only_reads in
    let wrote = c.write_tables.ensures in
    let left : c.deref_mut-in-None.result.now ≡ c.survey.new.classes = c.deref_mut-in-None.ensures.value ∙ with_items_is c.in_ok-classes.classes c.survey.new.classes (c.survey.auto.classes ∙ c.deref_mut.ensures.len) in
    record {
      formats = λ h.
          let same : mid ≡ old = made.same h in
          let fresh : IsFresh geometry old.image = subst (λ (found : Option ℕ). IsFirst (is_used geometry old.image) 0 (row_count geometry) found) c.in-None.is (made.first h) in
          let begun : IsTrying geometry old old table 0 0 1 0 = start geometry old table 0 fresh (made.whole h) (ap unworn left ∙ made.table h) in
          let writes : WritesFormat geometry need mid new c.write_tables.result =
          wrote.writes (reads.honest_is ∙ h) (subst (λ (f : Flash). IsTrying geometry f f table 0 0 1 0) (sym same) begun) in
          subst (λ (n : ℕ). Formats geometry n old new c.write_tables.result) c.need_at-need.ensures
          (subst (λ (f : Flash). Formats geometry need f new c.write_tables.result) same (writes_formats geometry need mid new c.write_tables.result writes));
      answers = subst (λ (n : ℕ). Answers geometry n (programs c.args.nand.now) (programs c.write_tables.new.nand) c.write_tables.result) c.need_at-need.ensures (writes_answers geometry need _ _ _ c.write_tables.result reads.programs_are wrote.answers);
      scanned = inr (subst (λ (n : ℕ). IsScanned geometry n (g.N.PageSource.view.honest c.args.nand.now) old (g.N.PageSource.view.reads c.args.nand.now) (g.N.PageSource.view.reads c.write_tables.new.nand)) c.need_at-need.ensures
          (scanned_before geometry need (g.N.PageSource.view.honest c.args.nand.now) old (unworn c.deref.result.now) _ _ _ made.reads wrote.only_writes.reads_were
          (λ h. subst (λ (found : Option ℕ). IsFirst (is_used geometry old.image) 0 (row_count geometry) found) c.in-None.is (made.first h))
          (λ h. ap unworn (c.deref.ensures.value ∙ with_items_is c.in_ok-classes.classes c.survey.new.classes (c.survey.auto.classes ∙ c.deref_mut.ensures.len)) ∙ made.table h) c.in_ok-require_good.ensures.ok));
      bus = λ is. risen_over _ _ _ reads.failed_is (wrote.rose is);
      memory = λ is. absurd (not_for_memory geometry need _ _ c.write_tables.result is wrote.answers);
      reads = ok_read c.write_tables.result _ _ _ _ made.reads wrote.only_writes.reads_were;
      most_reads = as_read _ _ _ _ made.most_reads wrote.only_writes.reads_were;
      most_programs = as_programmed _ _ _ _ reads.programs_are wrote.programs;
      erases = wrote.only_writes.erases_were ∙ reads.erases_are;
      geometry = wrote.only_writes.geometry_was ∙ reads.geometry_is;
      honest = wrote.only_writes.honest_was ∙ reads.honest_is;
      calm = wrote.only_writes.calm_was ∙ reads.calm_is;
      failed = no_less _ _ _ reads.failed_is wrote.only_writes.failed_was;
    }
