use Rattle.std.proofs.Common.{◌≡◌, ◌∙◌, ◌+◌, ◌<◌, ap, sym, subst, ℕ, List, Bool, true, length}
use Rattle.std.specs.Prelude.{slice_get}
use Rattle.std.specs.Result.{is_ok}
use Rattle.file_die.specs.Bytes.{Bytes}
use Rattle.file_die.specs.Store.{Held, Loads}
use Rattle.file_die.specs.Rows.{held_in}
use Rattle.file_die.proofs.RowLemmas.{counts_settled, end_told, rows_held, loads, piece_read, kept_of, kept_settled, held_is, parts_read, gives_at}
use Rattle.file_die.proofs.row_file.RowFile.read.Goals as goal

pub invariant_of-self : goal.invariant_of-self
invariant_of-self g c =
    let i = c.self.inside in
    parts_read (g.F.ByteFile.honest i.file) _ (g.F.ByteFile.held i.file) (g.F.ByteFile.held c.read_all-answer.new.file) i.geometry i.size i.erased.items i.failures i.fault i.sync_failed c.read_all-answer.ensures.honest c.self.invariant c.read_all-answer.ensures.same

pub returns : goal.returns
returns g c =
    let left = c.read_all-answer.new.file in
    let done = is_ok c.read_all-answer.result in
    let i = c.self.inside in
    let at_is = rw (← c.self.view_is) at c.offset-start.ensures in
    let lt = rw (← c.self.view_is) at c.requires.in_range in
    let room : length c.args.to.now ≡ i.size = rw (← c.self.view_is) at c.requires.room in
    let given : List ℕ = c.read_all-answer.new.to in
    let held = g.F.ByteFile.held in
    let long : length given ≡ i.size = c.read_all-answer.auto.to ∙ room in
    let made = c.settle.ensures in
    let new = c.settle.new.self in
    let s = held i.file in
    rw (← c.self.view_is) (record {
      gave = λ d. gives_at g.F.ByteFile.gave i.file _ _ given left new.file at_is (sym made.file) (c.read_all-answer.ensures.gave (sym made.answer ∙ d));
      ended = end_told g.F.ByteFile.gave c.args.row i.size c.offset-start.result _ _ new left c.read_all-answer.result c.settle.result at_is room c.read_all-answer.ensures.ended made.told made.answer made.file;
      bytes = λ d h.
          let filled : (k : ℕ) → k < i.size → slice_get given k ≡ slice_get s.bytes (c.offset-start.result + k) = λ k lt. c.read_all-answer.ensures.reads (sym made.answer ∙ d) h k (subst (λ n. k < n) (sym room) lt) in
          piece_read i.size c.args.row c.offset-start.result given s.bytes at_is long filled;
      loads = λ reads e.
          let kept = kept_of held g.F.ByteFile.honest g.F.ByteFile.tells reads _ e in
          let filled : done ≡ true → (k : ℕ) → k < i.size → slice_get given k ≡ slice_get s.bytes (c.offset-start.result + k) = λ d k lt. c.read_all-answer.ensures.reads d kept.0 k (subst (λ n. k < n) (sym room) lt) in
          let all = loads reads i.geometry i.size c.args.row c.offset-start.result given done s (held left) lt at_is (c.self.invariant.whole kept.0) long filled (c.read_all-answer.ensures.same kept.0) in
          let all_so = subst (λ (h : Held). Loads (rows_held reads i.geometry i.size s) c.args.row (reads given) done h) (held_is held reads new left i.geometry i.size made.file made.geometry made.size) all in
          subst (λ (d : Bool). Loads (rows_held reads i.geometry i.size s) c.args.row (reads given) d (held_in held reads new)) (sym made.answer) all_so;
      kept = λ reads. kept_settled held g.F.ByteFile.honest g.F.ByteFile.tells _ new left made.file c.read_all-answer.ensures.honest c.read_all-answer.ensures.tells made.size made.sync_failed
          (λ h. ap (λ (s : Bytes). s.failed_syncs) (c.read_all-answer.ensures.same h)) reads;
      counts = counts_settled _ new c.settle.result made.geometry made.size made.ok made.rising made.rose made.first;
      unfilled = made.full;
    })
