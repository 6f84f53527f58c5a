use Rattle.std.proofs.Common.{◌∙◌, ap, sym, subst, arith, ℕ, List, Bool, ◌≤◌, length}
use Rattle.std.specs.Result.{is_ok}
use Rattle.std.proofs.Math.Facts.{Fits-lt-pow}
use Rattle.page_layout.specs.Page.{Page}
use Rattle.file_die.specs.Rows.{WritesAll, held_in}
use Rattle.file_die.specs.Store.{Held, Puts}
use Rattle.file_die.proofs.RowLemmas.{counts_settled, full_told, room_settled, rows_held, rows_set, puts, rows_of, kept_of, kept_settled, held_is, parts_written, row_within, takes_at, where_ok, where_stopped}
use Rattle.file_die.proofs.row_file.RowFile.write.Goals as goal

pub invariant_of-self : goal.invariant_of-self
invariant_of-self g c =
    let i = c.self.inside in
    parts_written (g.F.ByteFile.honest i.file) _ (g.F.ByteFile.held i.file) (g.F.ByteFile.held c.write_all-answer.new.file) i.geometry i.size c.offset-start.result c.args.bytes.now i.erased.items (is_ok c.write_all-answer.result) i.failures i.fault i.sync_failed
    c.write_all-answer.ensures.honest c.self.invariant (row_within c.args.row _ i.size c.offset-start.result c.args.bytes.now (rw (← c.self.view_is) at c.requires.in_range) (rw (← c.self.view_is) at c.offset-start.ensures) (rw (← c.self.view_is) at c.requires.whole))
    (λ k. Fits-lt-pow (c.type_inv.bytes k)) c.write_all-answer.ensures.writes

pub returns : goal.returns
returns g c =
    let i = c.self.inside in
    let held = g.F.ByteFile.held in
    let s = held i.file in
    let left = c.write_all-answer.new.file in
    let given : List ℕ = c.args.bytes.now in
    let done = is_ok c.write_all-answer.result in
    let lt = rw (← c.self.view_is) at c.requires.in_range in
    let at_is = rw (← c.self.view_is) at c.offset-start.ensures in
    let long = rw (← c.self.view_is) at c.requires.whole in
    let l = row_within c.args.row _ i.size c.offset-start.result given lt at_is long in
    let made = c.settle.ensures in
    let new = c.settle.new.self in
    let settled = λ (reads : List ℕ → Page). held_is held reads new left i.geometry i.size made.file made.geometry made.size in
    rw (← c.self.view_is) (record {
      written = λ d h reads.
          let start : c.offset-start.result ≤ length s.bytes = omega (arith, l, c.self.invariant.whole h) in
          let wrote = subst (λ (b : Bool). WritesAll s c.offset-start.result given b (held left)) (sym made.answer ∙ d) (c.write_all-answer.ensures.writes h start) in
          ap (λ (z : Held). z.pages) (sym (settled reads)) ∙ rows_set reads i.size _ c.args.row c.offset-start.result given s (held left) lt at_is long start wrote;
      puts = λ reads r e.
          let kept = kept_of held g.F.ByteFile.honest g.F.ByteFile.tells reads _ e in
          let rows = rows_of held g.F.ByteFile.honest g.F.ByteFile.tells reads _ i.erased.items c.self.invariant e in
          let start : c.offset-start.result ≤ length s.bytes = omega (arith, l, rows.whole) in
          let all = puts reads i.geometry i.size c.args.row c.offset-start.result given done s (held left) r rows lt at_is long (λ k. Fits-lt-pow (c.type_inv.bytes k))
          (c.write_all-answer.ensures.writes kept.0 start) (c.write_all-answer.ensures.told kept.0 start i.size reads kept.1 s) in
          let all_so = subst (λ (h : Held). Puts (rows_held reads i.geometry i.size s) c.args.row (reads given) done h) (settled reads) all in
          subst (λ (d : Bool). Puts (rows_held reads i.geometry i.size s) c.args.row (reads given) d (held_in held reads new)) (sym made.answer) all_so;
      kept = λ reads. kept_settled held g.F.ByteFile.honest g.F.ByteFile.tells _ new left made.file c.write_all-answer.ensures.honest c.write_all-answer.ensures.tells made.size made.sync_failed
          (λ h. (c.write_all-answer.ensures.writes h (omega (arith, l, c.self.invariant.whole h))).syncs) reads;
      counts = counts_settled _ new c.settle.result made.geometry made.size made.ok made.rising made.rose made.first;
      full = full_told g.F.ByteFile.wrote _ new left c.write_all-answer.result c.settle.result c.write_all-answer.ensures.fails made.full made.told made.answer made.file;
      taken = where_ok c.settle.result (λ d. takes_at g.F.ByteFile.wrote i.file c.offset-start.result _ _ given left new.file at_is (sym made.file) (c.write_all-answer.ensures.taken (sym made.answer ∙ d)));
      stopped = where_stopped g.F.ByteFile.wrote i.file c.offset-start.result _ given left new.file c.write_all-answer.result c.settle.result at_is (sym made.file) made.answer c.write_all-answer.ensures.stopped;
      room = room_settled new.full i.sync_failed c.write_all-answer.result c.settle.result made.full made.answer;
    })
