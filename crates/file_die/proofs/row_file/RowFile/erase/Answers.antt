use Rattle.std.proofs.lemmas.Grind.{common_steps}
use Rattle.std.proofs.Common.{◌≡◌, ◌∙◌, ◌*◌, ◌+◌, ◌<◌, ap, refl, sym, subst, arith, ℕ, List, Bool, ◌≤◌, length}
use Rattle.std.specs.Prelude.{slice_index}
use Rattle.std.specs.Result.{is_ok}
use Rattle.page_layout.specs.Page.{Page}
use Rattle.file_die.specs.Store.{Held, Clears}
use Rattle.file_die.specs.Rows.{WritesAll, held_in}
use Rattle.file_die.proofs.RowLemmas.{counts_settled, full_told, room_settled, rows_held, clears, rows_of, kept_of, kept_settled, held_is, parts_written, block_within_rows, rows_blank, fits_blank, takes_at, takes_blank, where_ok, where_stopped, fewer_blank}
use Rattle.file_die.proofs.row_file.RowFile.erase.Goals as goal

pub invariant_of-self : goal.invariant_of-self
invariant_of-self g c =
    let i = c.self.inside in
    let zero_at : c.args.block * i.geometry.pages + 0 ≡ c.args.block * i.geometry.pages = omega arith in
    let at_is = (rw (← c.self.view_is) at c.offset-start.ensures) ∙ ap (λ n. n * i.size) (c.row.ensures.is ∙ zero_at) in
    let blank = c.deref.ensures.value ∙ c.self.invariant.blank in
    parts_written (g.F.ByteFile.honest i.file) _ (g.F.ByteFile.held i.file) (g.F.ByteFile.held c.write_all-answer.new.file) i.geometry i.size c.offset-start.result c.deref.result.now i.erased.items (is_ok c.write_all-answer.result) i.failures i.fault i.sync_failed
    c.write_all-answer.ensures.honest c.self.invariant (block_within_rows i.geometry i.size c.args.block c.offset-start.result c.deref.result.now (rw (← c.self.view_is) at c.requires.in_range) at_is blank)
    (subst (λ (xs : List ℕ). (k : ℕ) → slice_index xs k < 256) (sym blank) (λ k. fits_blank (i.geometry.pages * i.size) k)) c.write_all-answer.ensures.writes

pub returns : goal.returns
returns g c =
    let given : List ℕ = c.deref.result.now in
    let i = c.self.inside in
    let left = c.write_all-answer.new.file in
    let held = g.F.ByteFile.held in
    let lt = rw (← c.self.view_is) at c.requires.in_range in
    let zero_at : c.args.block * i.geometry.pages + 0 ≡ c.args.block * i.geometry.pages = omega arith in
    let at_is = (rw (← c.self.view_is) at c.offset-start.ensures) ∙ ap (λ n. n * i.size) (c.row.ensures.is ∙ zero_at) in
    let blank = c.deref.ensures.value ∙ c.self.invariant.blank in
    let l = block_within_rows i.geometry i.size c.args.block c.offset-start.result given lt at_is blank in
    let s = held i.file in
    let done = is_ok c.write_all-answer.result in
    let made = c.settle.ensures in
    let new = c.settle.new.self in
    rw (← c.self.view_is) (record {
      cleared = λ d h reads.
          let start : c.offset-start.result ≤ length s.bytes = omega (arith, l, c.self.invariant.whole h) in
          let wrote = subst (λ (b : Bool). WritesAll s c.offset-start.result given b (held left)) (sym made.answer ∙ d) (c.write_all-answer.ensures.writes h start) in
          ap (λ (z : Held). z.pages) (sym (held_is held reads new left i.geometry i.size made.file made.geometry made.size))
          ∙ rows_blank reads i.geometry i.size c.args.block c.offset-start.result given _ s (held left) (c.self.invariant.whole h) lt at_is blank refl wrote;
      clears = λ reads r e.
          let kept = kept_of held g.F.ByteFile.honest g.F.ByteFile.tells reads _ e in
          let rows = rows_of held g.F.ByteFile.honest g.F.ByteFile.tells reads _ i.erased.items c.self.invariant e in
          let start : c.offset-start.result ≤ length s.bytes = omega (arith, l, rows.whole) in
          let all = clears reads i.geometry i.size c.args.block c.offset-start.result given done s (held left) r rows lt at_is blank
          (c.write_all-answer.ensures.writes kept.0 start) (c.write_all-answer.ensures.told kept.0 start i.size reads kept.1 s) in
          let all_so = subst (λ (h : Held). Clears (rows_held reads i.geometry i.size s) c.args.block done h) (held_is held reads new left i.geometry i.size made.file made.geometry made.size) all in
          subst (λ (d : Bool). Clears (rows_held reads i.geometry i.size s) c.args.block d (held_in held reads new)) (sym made.answer) all_so;
      kept = λ reads. kept_settled held g.F.ByteFile.honest g.F.ByteFile.tells _ new left made.file c.write_all-answer.ensures.honest c.write_all-answer.ensures.tells made.size made.sync_failed
          (λ h. (c.write_all-answer.ensures.writes h (omega (arith, l, c.self.invariant.whole h))).syncs) reads;
      counts = counts_settled _ new c.settle.result made.geometry made.size made.ok made.rising made.rose made.first;
      full = full_told g.F.ByteFile.wrote _ new left c.write_all-answer.result c.settle.result c.write_all-answer.ensures.fails made.full made.told made.answer made.file;
      taken = where_ok c.settle.result (λ d. takes_at g.F.ByteFile.wrote i.file c.offset-start.result _ _ _ left new.file at_is (sym made.file)
          (takes_blank g.F.ByteFile.wrote i.file c.offset-start.result (i.geometry.pages * i.size) given left blank (c.write_all-answer.ensures.taken (sym made.answer ∙ d))));
      stopped = where_stopped g.F.ByteFile.wrote i.file c.offset-start.result _ _ left new.file c.write_all-answer.result c.settle.result at_is (sym made.file) made.answer
          (fewer_blank g.F.ByteFile.wrote i.file c.offset-start.result (i.geometry.pages * i.size) given left c.write_all-answer.result blank c.write_all-answer.ensures.stopped);
      room = room_settled new.full i.sync_failed c.write_all-answer.result c.settle.result made.full made.answer;
    })

pub write_all-answer-requires : goal.write_all-answer-requires
write_all-answer-requires g c = grind (arith, common_steps)
