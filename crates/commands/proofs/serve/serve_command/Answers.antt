use Rattle.std.proofs.Common.{◌≡◌, ◌∙◌, List, Option, ℕ, inl, subst, sym, Err, ap, refl}
use Rattle.std.proofs.KnownBytes.{Keeps-refl}
use Rattle.std.proofs.lemmas.Result.{err_from_is_err_and}
use Rattle.onfi_cycles.specs.Driver.{flash_by}
use Rattle.commands.specs.declared.steady.SteadyDie.{SteadyDie}
use Rattle.commands.specs.Files.{Stored, left_behind}
use Rattle.commands.specs.Serve.{EndsServing, HasServedDie}
use Rattle.commands.proofs.FormatLemmas.{kept_whole}
use Rattle.commands.proofs.ServeLemmas.{not_served, served_does, stops, undied, unserved}
use Rattle.commands.proofs.TakenLemmas as taken
use Rattle.commands.proofs.serve.serve_command.Goals as goal

pub returns-in_err-claimed : goal.returns-in_err-claimed
returns-in_err-claimed g c =
    let p = err_from_is_err_and c.from_residual.result c.from_residual.ensures.1 in
    record {
      does = stops (g.F.FileStore.gives c.args.files.now) c.args.words _ _ _ _ c.from_residual.result c.in_err-claimed.field-0.0 (p.1 ∙ ap Err p.2) (c.in_err-claimed.ensures.stores, Keeps-refl _) (Keeps-refl _)
          (inl c.in_err-claimed.ensures.fault);
      takes = taken.some _ c.in_err-claimed.ensures.takes.0 _ _ c.from_residual.result _ (p.1 ∙ ap Err p.2) c.in_err-claimed.ensures.takes.1;
    }

pub returns-in_err-driver : goal.returns-in_err-driver
returns-in_err-driver g c =
    let p = err_from_is_err_and c.from_residual-in_err-driver.result c.from_residual-in_err-driver.ensures.1 in
    let claimed = c.in_ok-claimed.claimed in
    let stop = c.in_err-driver.field-0.0 in
    record {
      does = stops (g.F.FileStore.gives c.args.files.now) c.args.words _ _ _ _ c.from_residual-in_err-driver.result stop (p.1 ∙ ap Err p.2) (c.in_ok-claimed.ensures.stores, Keeps-refl _) (Keeps-refl _)
          (not_served stop c.in_ok-claimed.ensures.ok (undied claimed.asked.geometry claimed.asked.capacity claimed.bytes.items claimed.certificate stop c.in_err-driver.ensures.fault));
      takes = taken.some _ 2 _ _ c.from_residual-in_err-driver.result _ (p.1 ∙ ap Err p.2) c.in_ok-claimed.ensures.takes;
    }

pub returns-in_err-stop : goal.returns-in_err-stop
returns-in_err-stop g c =
    let p = err_from_is_err_and c.from_residual-in_err-stop.result c.from_residual-in_err-stop.ensures.1 in
    let claimed = c.in_ok-claimed.claimed in
    let stop = c.in_err-stop.field-0.0 in
    let loaded = c.in_ok-driver.ensures.held in
    record {
      does = stops (g.F.FileStore.gives c.args.files.now) c.args.words _ _ _ _ c.from_residual-in_err-stop.result stop (p.1 ∙ ap Err p.2) (c.in_ok-claimed.ensures.stores, c.in_err-stop.ensures.unwritten) c.in_err-stop.ensures.unread
          (not_served stop c.in_ok-claimed.ensures.ok (unserved claimed.asked.geometry claimed.asked.capacity claimed.bytes.items claimed.certificate _ stop c.in_ok-driver.ensures.whole loaded c.in_err-stop.ensures.fault));
      takes = taken.some _ 2 _ _ c.from_residual-in_err-stop.result _ (p.1 ∙ ap Err p.2) c.in_ok-claimed.ensures.takes;
    }

pub returns : goal.returns
returns g c =
    let claimed = c.in_ok-claimed.claimed in
    let asked = claimed.asked in
    let words = c.args.words in
    let s = flash_by {B = SteadyDie} (λ bus. bus.die.state) c.in_ok-driver.driver in
    let before = left_behind (g.F.FileStore.stores c.args.files.now) (g.W.Write.contents c.args.out.now) in
    let after = left_behind (g.F.FileStore.stores c.finish.new.files) (g.W.Write.contents c.serve_die.new.out) in
    let image = c.deref.result.now in
    let kept : image ≡ c.serve_die.new.image = c.deref.ensures.value ∙ kept_whole claimed.bytes.len c.serve_die.new.image claimed.bytes.items (c.serve_die.auto.image ∙ c.deref_mut.ensures.len) in
    let E : Option (List Stored) → Type 0 = λ stores. EndsServing words.output.now image c.in_ok-stop.stop stores after.stores c.finish.result in
    let H : List ℕ → Type 0 = λ i. HasServedDie asked.geometry asked.capacity claimed.certificate s i (g.R.Read.remaining c.args.input.now) (g.R.Read.remaining c.serve_die.new.input) before.out after.out c.in_ok-stop.stop in
    record {
      does = served_does (g.F.FileStore.gives c.args.files.now) words _ _ before after c.finish.result asked.geometry asked.capacity claimed.bytes.items image claimed.certificate s c.in_ok-stop.stop
          c.in_ok-claimed.ensures.ok c.in_ok-driver.ensures.held (subst H (sym kept) c.in_ok-stop.ensures.ok)
          (subst E c.in_ok-claimed.ensures.stores c.finish.ensures.ends);
      takes = taken.all _ 2 _ _ c.finish.result refl (c.finish.ensures.taken ∙ c.in_ok-claimed.ensures.takes);
    }
