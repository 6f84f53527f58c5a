-- How long a disk is honest.
use Rattle.std.proofs.Common.{◌≡◌, ◌⊎◌, inl, inr, ℕ, Bool, true, false, List, [], ◌∷◌, ◌++◌, Option, Some, None, Result, Ok, Err, refl, sym, ap, ◌∙◌, subst, append-nil}
use Rattle.std.specs.Prelude.{IfSome, IsErr, IsOk, OnOk}
use Rattle.nbd_stream.specs.declared.export.Export.{Export}
use Rattle.nbd_stream.specs.declared.fault.DiskFault.{DiskFault}
use Rattle.nbd_stream.specs.declared.fault.DiskFault.TheVariants.{Failed}
use Rattle.nbd_stream.specs.declared.reply.RequestError.{RequestError}
use Rattle.nbd_stream.specs.declared.task.Task.{Task}
use Rattle.nbd_stream.specs.Disk.{Contents}
use Rattle.nbd_stream.specs.Exchanges.{NbdExchange, Round, RestsBy, TellsBy, TellsRound, ToldEachRound, exchanges_in, task_of}
use Rattle.nbd_stream.specs.Runs.{AnswersExchange, Runs}
use Rattle.nbd_stream.specs.Until.{NeverHonestAgainLaw, BreaksBy, IsFailed, IsFirstFailed, IsFirstOfRun, IsHonestUntil, StaysHonestLaw, UntilLaw}
use Rattle.nbd_stream.proofs.RoundLemmas.{back_of, one_answers, round_answers}
use Rattle.nbd_stream.proofs.RunLemmas.{done_law, on_ok}

lost_by : (b c : Bool) → (b ≡ true → c ≡ true) → c ≡ false → b ≡ false
lost_by true c back lost = let found = back refl in (let no : ⊥ = cc in absurd no)
lost_by false c back lost = refl

-- an answer that may have ended it is an error
err_by : (answer : Result (List ℕ) RequestError) (b c : Bool) → OnOk answer (b ≡ c) → c ≡ true → b ≡ false → IsErr answer
err_by (Ok bytes) b c kept held lost = (let no : ⊥ = cc in absurd no)
err_by (Err error) b c kept held lost = refl

-- one exchange more
runs_more : (e : Export) (s m t : Contents) (before : List Round) (x : Round) → Runs e s (exchanges_in before) m → AnswersExchange e m x.exchange t → Runs e s (exchanges_in (before ++ x ∷ [])) t
runs_more e s m t [] x same one = (t, subst (λ (c : Contents). AnswersExchange e c x.exchange t) same one, refl)
runs_more e s m t (y ∷ ys) x (n, first, more) one = (n, first, runs_more e n m t ys x more one)

module _ {D : Type 0} (contents : D → Contents) (honest calm : D → Bool) (does : D → Task → Result (Unit {0}) DiskFault → D → Type 0) (rests : D → Result (Unit {0}) DiskFault → D → Type 0) where
  pub back_law : NeverHonestAgainLaw contents honest calm does rests
  back_law e old new xs told lost = lost_by (honest new) (honest old) (back_of contents honest calm does rests e old new xs told) lost

  module _ (e : Export) where
    -- ---- the longest front

    none_more : (old new : D) (xs : List Round) → honest old ≡ true → BreaksBy contents honest calm does rests e old xs new → IsHonestUntil contents honest calm does rests e old xs new
    none_more old new xs held breaks = record { before = []; after = xs; joined = refl; mid = old; each = refl; held = held; runs = refl; breaks = breaks }

    one_more : (old next new : D) (x : Round) (xs : List Round) → TellsRound contents honest calm does rests e old x next → honest next ≡ true → IsHonestUntil contents honest calm does rests e next xs new → IsHonestUntil contents honest calm does rests e old (x ∷ xs) new
    one_more old next new x xs one held more = record {
      before = x ∷ more.before;
      after = more.after;
      joined = ap (λ (l : List Round). x ∷ l) more.joined;
      mid = more.mid;
      each = (next, one, more.each);
      held = more.held;
      runs = (contents next, round_answers contents honest calm does rests e old next x one held, more.runs);
      breaks = more.breaks;
    }

    by_next : (b : Bool) (old next new : D) (x : Round) (xs : List Round) → honest next ≡ b → honest old ≡ true → TellsRound contents honest calm does rests e old x next → ToldEachRound contents honest calm does rests e next xs new
        → (honest next ≡ true → IsHonestUntil contents honest calm does rests e next xs new) → IsHonestUntil contents honest calm does rests e old (x ∷ xs) new
    by_next true old next new x xs is held one more later = one_more old next new x xs one is (later is)
    by_next false old next new x xs is held one more later = none_more old new (x ∷ xs) held (next, one, is, more)

    pub until_of : (old new : D) (xs : List Round) → ToldEachRound contents honest calm does rests e old xs new → honest old ≡ true → IsHonestUntil contents honest calm does rests e old xs new
    until_of old new [] same held = none_more old new [] held same
    until_of old new (x ∷ xs) (next, one, more) held = by_next (honest next) old next new x xs refl held one more (until_of next new xs more)

    -- ---- where it ended

    ends_here : (mid new : D) (after : List Round) → BreaksBy contents honest calm does rests e mid after new → honest new ≡ true → (after ≡ []) × (new ≡ mid)
    ends_here mid new [] same held = (refl, same)
    ends_here mid new (x ∷ xs) (next, one, lost, more) held =
        let never = back_law e next new xs more lost in
        (let no : ⊥ = cc in absurd no)

    -- a rest that ended it failed
    rest_failed : (k : Result Task RequestError) (mid next : D) (rested : Option (Result (Unit {0}) DiskFault)) → RestsBy contents honest calm rests k mid rested next
        → honest mid ≡ true → honest next ≡ false → rested ≡ Some (Err Failed)
    rest_failed k mid next None same held lost =
        let stays : honest next ≡ honest mid = ap honest same in
        (let no : ⊥ = cc in absurd no)
    rest_failed k mid next (Some (Ok done)) (is, idles, more) held lost =
        let stays : honest next ≡ honest mid = idles.kept in
        (let no : ⊥ = cc in absurd no)
    rest_failed k mid next (Some (Err f)) (is, idles, more) held lost = ap (λ (g : DiskFault). Some (Err g)) idles.fault

    -- it was the task, or the rest after it
    failed_by : (b : Bool) (task : Task) (old mid next : D) (x : Round) → honest mid ≡ b → TellsBy contents honest calm does (Ok task) old x.exchange mid → RestsBy contents honest calm rests (Ok task) mid x.rested next
        → honest old ≡ true → honest next ≡ false → IsErr x.exchange.answer ⊎ (x.rested ≡ Some (Err Failed))
    failed_by true task old mid next x is tells rest held lost = inr (rest_failed (Ok task) mid next x.rested rest is lost)
    failed_by false task old mid next x is (performs, done) rest held lost = inl (err_by x.exchange.answer (honest mid) (honest old) performs.kept held is)

    round_failed : (k : Result Task RequestError) (old mid next : D) (x : Round) → task_of e x.exchange.request ≡ k → TellsBy contents honest calm does k old x.exchange mid → RestsBy contents honest calm rests k mid x.rested next
        → honest old ≡ true → honest next ≡ false → IsFailed e x
    round_failed (Err error) old mid next x asked (is, same) rest held lost =
        let stays : honest mid ≡ honest old = ap honest same in
        let failed : x.rested ≡ Some (Err Failed) = rest_failed (Err error) mid next x.rested rest (stays ∙ held) lost in
        let rests_so = subst (λ r. RestsBy contents honest calm rests (Err error) mid r next) failed rest in
        (let no : ⊥ = cc (rests_so.0) in absurd no)
    round_failed (Ok task) old mid next x asked tells rest held lost = ((task, asked), failed_by (honest mid) task old mid next x refl tells rest held lost)

    failed_first : (mid new : D) (after : List Round) → honest mid ≡ true → BreaksBy contents honest calm does rests e mid after new → IsFirstFailed e after
    failed_first mid new [] held breaks = tt
    failed_first mid new (x ∷ xs) held (next, one, lost, more) = round_failed (task_of e x.exchange.request) mid one.mid next x refl one.tells one.rest held lost

    -- ---- where no task and no rest fails

    one_stays : (k : Result Task RequestError) (old new : D) (x : NbdExchange) → TellsBy contents honest calm does k old x new → ((task : Task) → k ≡ Ok task → IsOk x.answer) → honest new ≡ honest old
    one_stays (Err error) old new x (is, same) done = ap honest same
    one_stays (Ok task) old new x (performs, does_so) done = on_ok x.answer (done task refl) performs.kept

    rest_stays : (k : Result Task RequestError) (old new : D) (rested : Option (Result (Unit {0}) DiskFault)) → RestsBy contents honest calm rests k old rested new → IfSome rested (λ result. IsOk result) → honest new ≡ honest old
    rest_stays k old new None same done = ap honest same
    rest_stays k old new (Some (Ok so)) (is, idles, more) done = idles.kept
    rest_stays k old new (Some (Err f)) rest done = (let no : ⊥ = cc in absurd no)

    run_on : (s : Contents) (before after : List Round) (mid new : D) → Runs e s (exchanges_in before) (contents mid) → honest mid ≡ true → BreaksBy contents honest calm does rests e mid after new → IsFirstOfRun e s before after
    run_on s before [] mid new runs held breaks = tt
    run_on s before (x ∷ xs) mid new runs held (next, one, lost, more) = λ ok.
        let stays : honest one.mid ≡ honest mid = one_stays (task_of e x.exchange.request) mid one.mid x.exchange one.tells (λ task asked. ok) in
        (contents one.mid, runs_more e s (contents mid) (contents one.mid) before x runs (one_answers contents honest calm does rests e (task_of e x.exchange.request) mid one.mid x.exchange one.tells (stays ∙ held)))

  pub until_law : UntilLaw contents honest calm does rests
  until_law e old new xs until =
      let whole : honest new ≡ true → (until.before ≡ xs) × (new ≡ until.mid) = λ held.
      let here = ends_here e until.mid new until.after until.breaks held in
      (sym (until.joined ∙ ap (λ (l : List Round). until.before ++ l) here.0 ∙ append-nil until.before), here.1) in (
        whole,
        failed_first e until.mid new until.after until.held until.breaks,
        run_on e (contents old) until.before until.after until.mid new until.runs until.held until.breaks,
        done_law e (contents old) (contents until.mid) (exchanges_in until.before) until.runs,
      )

  pub stays_law : StaysHonestLaw contents honest calm does rests
  stays_law e old new [] same done rested = ap honest same
  stays_law e old new (x ∷ xs) (next, one, more) done rested =
      stays_law e next new xs more done.1 rested.1
      ∙ rest_stays e (task_of e x.exchange.request) one.mid next x.rested one.rest rested.0
      ∙ one_stays e (task_of e x.exchange.request) old one.mid x.exchange one.tells done.0
