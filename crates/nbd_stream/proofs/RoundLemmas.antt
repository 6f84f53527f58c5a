-- A rest after an exchange changes nothing that is said of it; and a chain of disks is a run.
use Rattle.std.proofs.Common.{◌≡◌, ◌⊎◌, inl, inr, ℕ, Bool, true, List, [], ◌∷◌, length, Option, Some, None, Result, Ok, Err, sym, ap, ◌∙◌, subst}
use Rattle.std.specs.Prelude.{slice_index, IsOk, IfSome, OnOk, OnErr}
use Rattle.nbd_stream.specs.declared.export.Export.{Export}
use Rattle.nbd_stream.specs.declared.fault.DiskFault.{DiskFault}
use Rattle.nbd_stream.specs.declared.reply.RequestError.{RequestError}
use Rattle.nbd_stream.specs.declared.task.Task.{Task}
use Rattle.nbd_stream.specs.Disk.{Contents, IsOldOrDue, TaskSteps, bytes_after, makes_last}
use Rattle.nbd_stream.specs.Exchanges.{NbdExchange, Round, RestsBy, TellsBy, TellsRound, ToldEachRound, AreRestsDone, exchanges_in, task_of}
use Rattle.nbd_stream.specs.Runs.{AnswersBy, Runs, AreDone}

-- ---- a task, and then a rest

-- a byte stands as it was before the task, or as it was to be
stands_so : (old due : List ℕ) (m : Contents) (answer : Result (List ℕ) RequestError) (p : ℕ)
    → OnOk answer (m.bytes ≡ due) → OnErr answer ((place : ℕ) → IsOldOrDue old due m.bytes place) → IsOldOrDue old due m.bytes p
stands_so old due m (Ok bytes) p done torn = inr (ap (λ (l : List ℕ). slice_index l p) done)
stands_so old due m (Err error) p done torn = torn p

-- the byte that the rest leaves if the power goes
left_so : (s m t : Contents) (due : List ℕ) (p : ℕ) → IsOldOrDue s.bytes due m.bytes p
    → (slice_index m.durable p ≡ slice_index s.durable p) ⊎ IsOldOrDue s.bytes due m.durable p
    → (slice_index t.durable p ≡ slice_index m.durable p) ⊎ (slice_index t.durable p ≡ slice_index m.bytes p)
    → (slice_index t.durable p ≡ slice_index s.durable p) ⊎ IsOldOrDue s.bytes due t.durable p
left_so s m t due p stands (inl was) (inl same) = inl (same ∙ was)
left_so s m t due p stands (inr (inl was)) (inl same) = inr (inl (same ∙ was))
left_so s m t due p stands (inr (inr was)) (inl same) = inr (inr (same ∙ was))
left_so s m t due p (inl stands) was (inr stood) = inr (inl (stood ∙ stands))
left_so s m t due p (inr stands) was (inr stood) = inr (inr (stood ∙ stands))

module _ (s m t : Contents) (bytes : t.bytes ≡ m.bytes)
    (stays : (p : ℕ) → (slice_index t.durable p ≡ slice_index m.durable p) ⊎ (slice_index t.durable p ≡ slice_index m.bytes p)) where
  done_so : (answer : Result (List ℕ) RequestError) (due : List ℕ) → OnOk answer (m.bytes ≡ due) → OnOk answer (t.bytes ≡ due)
  done_so (Ok gave) due done = bytes ∙ done
  done_so (Err error) due done = done

  last_so : (p : ℕ) → slice_index m.durable p ≡ slice_index m.bytes p
      → (slice_index t.durable p ≡ slice_index m.durable p) ⊎ (slice_index t.durable p ≡ slice_index m.bytes p)
      → slice_index t.durable p ≡ slice_index t.bytes p
  last_so p last (inl same) = same ∙ last ∙ sym (ap (λ (l : List ℕ). slice_index l p) bytes)
  last_so p last (inr stood) = stood ∙ sym (ap (λ (l : List ℕ). slice_index l p) bytes)

  lasts_so : (answer : Result (List ℕ) RequestError) (task : Task)
      → OnOk answer ((p : ℕ) → makes_last task p ≡ true → slice_index m.durable p ≡ slice_index m.bytes p)
      → OnOk answer ((p : ℕ) → makes_last task p ≡ true → slice_index t.durable p ≡ slice_index t.bytes p)
  lasts_so (Ok gave) task lasts = λ p last. last_so p (lasts p last) (stays p)
  lasts_so (Err error) task lasts = lasts

  steps_rested : (task : Task) (body : List ℕ) (answer : Result (List ℕ) RequestError) → TaskSteps task body s answer m → TaskSteps task body s answer t
  steps_rested task body answer steps =
      let due : List ℕ = bytes_after task body s.bytes in
      record {
        done = done_so answer due steps.done;
        gave = steps.gave;
        torn = subst (λ (l : List ℕ). OnErr answer ((p : ℕ) → IsOldOrDue s.bytes due l p)) (sym bytes) steps.torn;
        stays = λ p. left_so s m t due p (stands_so s.bytes due m answer p steps.done steps.torn) (steps.stays p) (stays p);
        lasts = lasts_so answer task steps.lasts;
      }

-- ---- rounds

module _ {D : Type 0} (contents : D → Contents) (honest calm : D → Bool) (does : D → Task → Result (Unit {0}) DiskFault → D → Type 0) (rests : D → Result (Unit {0}) DiskFault → D → Type 0) (e : Export) where
  rest_sized : (k : Result Task RequestError) (old new : D) (rested : Option (Result (Unit {0}) DiskFault)) → RestsBy contents honest calm rests k old rested new → length (contents new).bytes ≡ length (contents old).bytes
  rest_sized k old new None same = ap (λ (d : D). length (contents d).bytes) same
  rest_sized k old new (Some result) (is, idles, more) = idles.sized

  rest_back : (k : Result Task RequestError) (old new : D) (rested : Option (Result (Unit {0}) DiskFault)) → RestsBy contents honest calm rests k old rested new → honest new ≡ true → honest old ≡ true
  rest_back k old new None same h = sym (ap honest same) ∙ h
  rest_back k old new (Some result) (is, idles, more) h = idles.was_honest h

  rest_calm : (k : Result Task RequestError) (old new : D) (rested : Option (Result (Unit {0}) DiskFault)) → RestsBy contents honest calm rests k old rested new → calm new ≡ calm old
  rest_calm k old new None same = ap calm same
  rest_calm k old new (Some result) (is, idles, more) = idles.calm_is

  rest_done : (k : Result Task RequestError) (old new : D) (rested : Option (Result (Unit {0}) DiskFault)) → RestsBy contents honest calm rests k old rested new → calm old ≡ true → IfSome rested (λ result. IsOk result)
  rest_done k old new None same h = tt
  rest_done k old new (Some result) (is, idles, more) h = idles.calmly h

  pub one_sized : (k : Result Task RequestError) (old new : D) (x : NbdExchange) → TellsBy contents honest calm does k old x new → length (contents new).bytes ≡ length (contents old).bytes
  one_sized (Err error) old new x (is, same) = ap (λ (d : D). length (contents d).bytes) same
  one_sized (Ok task) old new x (performs, done) = performs.sized

  one_back : (k : Result Task RequestError) (old new : D) (x : NbdExchange) → TellsBy contents honest calm does k old x new → honest new ≡ true → honest old ≡ true
  one_back (Err error) old new x (is, same) h = sym (ap honest same) ∙ h
  one_back (Ok task) old new x (performs, done) h = performs.back h

  one_calm : (k : Result Task RequestError) (old new : D) (x : NbdExchange) → TellsBy contents honest calm does k old x new → calm new ≡ calm old
  one_calm (Err error) old new x (is, same) = ap calm same
  one_calm (Ok task) old new x (performs, done) = performs.calm_is

  one_done : (k : Result Task RequestError) (old new : D) (x : NbdExchange) → TellsBy contents honest calm does k old x new → calm old ≡ true → (task : Task) → k ≡ Ok task → IsOk x.answer
  one_done (Err error) old new x tells h task is = (let no : ⊥ = cc in absurd no)
  one_done (Ok task') old new x (performs, done) h task is = performs.calmly h

  -- the answer, by the disk that was asked
  pub one_answers : (k : Result Task RequestError) (old new : D) (x : NbdExchange) → TellsBy contents honest calm does k old x new → honest new ≡ true → AnswersBy k (contents old) x (contents new)
  one_answers (Err error) old new x (is, same) h = (is, ap contents same)
  one_answers (Ok task) old new x (performs, done) h = (performs.sized, performs.steps h)

  -- and by the one that rested
  rested_answers : (k : Result Task RequestError) (old mid new : D) (x : NbdExchange) (rested : Option (Result (Unit {0}) DiskFault))
      → TellsBy contents honest calm does k old x mid → RestsBy contents honest calm rests k mid rested new → honest new ≡ true → AnswersBy k (contents old) x (contents new)
  rested_answers k old mid new x None tells same h =
      subst (λ (d : D). AnswersBy k (contents old) x (contents d)) (sym same) (one_answers k old mid x tells (sym (ap honest same) ∙ h))
  rested_answers (Err error) old mid new x (Some result) tells (is, idles, more) h = (let no : ⊥ = cc in absurd no)
  rested_answers (Ok task) old mid new x (Some result) (performs, done) (is, idles, more) h =
      (idles.sized ∙ performs.sized, steps_rested (contents old) (contents mid) (contents new) (idles.bytes h) (idles.stays h) task x.request.body x.answer (performs.steps (idles.was_honest h)))

  module _ (old new : D) (x : Round) (round : TellsRound contents honest calm does rests e old x new) where
    pub round_sized : length (contents new).bytes ≡ length (contents old).bytes
    round_sized = rest_sized (task_of e x.exchange.request) round.mid new x.rested round.rest ∙ one_sized (task_of e x.exchange.request) old round.mid x.exchange round.tells

    pub round_back : honest new ≡ true → honest old ≡ true
    round_back h = one_back (task_of e x.exchange.request) old round.mid x.exchange round.tells (rest_back (task_of e x.exchange.request) round.mid new x.rested round.rest h)

    pub round_calm : calm new ≡ calm old
    round_calm = rest_calm (task_of e x.exchange.request) round.mid new x.rested round.rest ∙ one_calm (task_of e x.exchange.request) old round.mid x.exchange round.tells

    pub round_answers : honest new ≡ true → AnswersBy (task_of e x.exchange.request) (contents old) x.exchange (contents new)
    round_answers h = rested_answers (task_of e x.exchange.request) old round.mid new x.exchange x.rested round.tells round.rest h

    round_done : calm old ≡ true → (task : Task) → task_of e x.exchange.request ≡ Ok task → IsOk x.exchange.answer
    round_done h = one_done (task_of e x.exchange.request) old round.mid x.exchange round.tells h

    round_rest_done : calm old ≡ true → IfSome x.rested (λ result. IsOk result)
    round_rest_done h = rest_done (task_of e x.exchange.request) round.mid new x.rested round.rest (one_calm (task_of e x.exchange.request) old round.mid x.exchange round.tells ∙ h)

  -- ---- a chain of disks is a run

  pub back_of : (old new : D) (xs : List Round) → ToldEachRound contents honest calm does rests e old xs new → honest new ≡ true → honest old ≡ true
  back_of old new [] same h = sym (ap honest same) ∙ h
  back_of old new (x ∷ xs) (next, one, more) h = round_back old next x one (back_of next new xs more h)

  pub runs_of : (old new : D) (xs : List Round) → ToldEachRound contents honest calm does rests e old xs new → honest new ≡ true → Runs e (contents old) (exchanges_in xs) (contents new)
  runs_of old new [] same h = ap contents same
  runs_of old new (x ∷ xs) (next, one, more) h = (contents next, round_answers old next x one (back_of next new xs more h), runs_of next new xs more h)

  pub done_of : (old new : D) (xs : List Round) → ToldEachRound contents honest calm does rests e old xs new → calm old ≡ true → AreDone e (exchanges_in xs)
  done_of old new [] same h = tt
  done_of old new (x ∷ xs) (next, one, more) h = (round_done old next x one h, done_of next new xs more (round_calm old next x one ∙ h))

  pub rests_done_of : (old new : D) (xs : List Round) → ToldEachRound contents honest calm does rests e old xs new → calm old ≡ true → AreRestsDone xs
  rests_done_of old new [] same h = tt
  rests_done_of old new (x ∷ xs) (next, one, more) h = (round_rest_done old next x one h, rests_done_of next new xs more (round_calm old next x one ∙ h))
