-- What a run comes to.
use Rattle.std.proofs.Common.{◌≡◌, ◌<◌, ◌≤◌, ◌+◌, ◌⊎◌, inl, inr, ℕ, true, List, [], ◌∷◌, length, Option, Some, None, Result, Ok, Err, refl, sym, ap, ◌∙◌, subst, rules}
use Rattle.std.specs.Prelude.{slice_index, unwrap_or, IsOk, IfOk, OnOk, OnErr}
use Rattle.nbd_stream.specs.declared.export.Export.{Export}
use Rattle.nbd_stream.specs.declared.reply.RequestError.{RequestError}
use Rattle.nbd_stream.specs.declared.task.Task.{Task}
use Rattle.nbd_stream.specs.Frames.{NbdRequest, IsNbdRequest}
use Rattle.nbd_stream.specs.Disk.{Contents, IsOldOrDue, bytes_after, bytes_given, is_in, makes_last, value_at}
use Rattle.nbd_stream.specs.Exchanges.{NbdExchange, requests_in, task_of}
use Rattle.nbd_stream.specs.Runs.{AnswersBy, Runs, AreForExport, IsSet, IsToLast, task_answer_by, bytes_left, array_exchanges, bytes_left_by, value_by, value_set_by}
use Rattle.nbd_stream.specs.Runs.{DoneLaw, KeptOrSetLaw, LastsLaw, NothingLostLaw, SetLaw}
use Rattle.nbd_stream.proofs.DiskLemmas.{byte_law}
use Rattle.nbd_stream.proofs.Asked.{inside, taken_of}

-- ---- one answer

-- a value that a byte had, or that a task sets it to
abbrev IsHadOrSet : (P : ℕ → Type 0) → Option ℕ → ℕ → Type 0
IsHadOrSet P set value = P value ⊎ (set ≡ Some value)

had_or_set : (P : ℕ → Type 0) (set : Option ℕ) (was now : ℕ) → P was → now ≡ unwrap_or set was → IsHadOrSet P set now
had_or_set P None was now had is = inl (subst P (sym is) had)
had_or_set P (Some v) was now had is = inr (ap (λ (k : ℕ). Some k) (sym is))

either_of : (P : ℕ → Type 0) (set : Option ℕ) (old due new : List ℕ) (p : ℕ) → P (slice_index old p) → IsHadOrSet P set (slice_index due p) → IsOldOrDue old due new p → IsHadOrSet P set (slice_index new p)
either_of P set old due new p had has (inl is) = inl (subst P (sym is) had)
either_of P set old due new p had has (inr is) = subst (IsHadOrSet P set) (sym is) has

-- the bytes after a task that is done, or that failed
after_task : (P : ℕ → Type 0) (set : Option ℕ) (s t : Contents) (due : List ℕ) (answer : Result (List ℕ) RequestError) (p : ℕ)
    → OnOk answer (t.bytes ≡ due) → OnErr answer ((place : ℕ) → IsOldOrDue s.bytes due t.bytes place) → P (slice_index s.bytes p) → IsHadOrSet P set (slice_index due p) → IsHadOrSet P set (slice_index t.bytes p)
after_task P set s t due (Ok bytes) p done torn had has = subst (λ (l : List ℕ). IsHadOrSet P set (slice_index l p)) (sym done) has
after_task P set s t due (Err e) p done torn had has = either_of P set s.bytes due t.bytes p had has (torn p)

lasting_after : (P : ℕ → Type 0) (set : Option ℕ) (s t : Contents) (due : List ℕ) (p : ℕ) → P (slice_index s.bytes p) → P (slice_index s.durable p) → IsHadOrSet P set (slice_index due p)
    → (slice_index t.durable p ≡ slice_index s.durable p) ⊎ IsOldOrDue s.bytes due t.durable p → IsHadOrSet P set (slice_index t.durable p)
lasting_after P set s t due p had had' has (inl is) = inl (subst P (sym is) had')
lasting_after P set s t due p had had' has (inr is) = either_of P set s.bytes due t.durable p had has is

pub after_answer : (P : ℕ → Type 0) (e : Export) (s t : Contents) (x : NbdExchange) (k : Result Task RequestError) (p : ℕ) → task_of e x.request ≡ k → length s.bytes ≡ e.size → IsNbdRequest x.request → AnswersBy k s x t
    → P (slice_index s.bytes p) → P (slice_index s.durable p) → IsHadOrSet P (value_by k x.request.body p) (slice_index t.bytes p) × IsHadOrSet P (value_by k x.request.body p) (slice_index t.durable p)
after_answer P e s t x (Err error) p asked size is (answer, same) had had' =
    (inl (subst (λ (c : Contents). P (slice_index c.bytes p)) (sym same) had), inl (subst (λ (c : Contents). P (slice_index c.durable p)) (sym same) had'))
after_answer P e s t x (Ok task) p asked size is (sized, steps) had had' =
    let due : List ℕ = bytes_after task x.request.body s.bytes in
    let set : Option ℕ = value_at task x.request.body p in
    let byte = byte_law task x.request.body s.bytes (inside e x.request task (length s.bytes) asked size) (taken_of e x.request task is asked) in
    let has : IsHadOrSet P set (slice_index due p) = had_or_set P set (slice_index s.bytes p) (slice_index due p) had (byte.1 p) in (
      after_task P set s t due x.answer p steps.done steps.torn had has,
      lasting_after P set s t due p had had' has (steps.stays p),
    )

sized_answer : (k : Result Task RequestError) (s t : Contents) (x : NbdExchange) → AnswersBy k s x t → length t.bytes ≡ length s.bytes
sized_answer (Err error) s t x (answer, same) = ap (λ (c : Contents). length c.bytes) same
sized_answer (Ok task) s t x (sized, steps) = sized

-- ---- nothing that lasts is lost

regroup : (P : ℕ → Type 0) (e : Export) (x : NbdExchange) (xs : List NbdExchange) (p value : ℕ) → IsHadOrSet P (value_set_by e x.request p) value ⊎ IsSet e xs p value → P value ⊎ IsSet e (x ∷ xs) p value
regroup P e x xs p value (inl (inl had)) = inl had
regroup P e x xs p value (inl (inr set)) = inr (inl set)
regroup P e x xs p value (inr set) = inr (inr set)

-- what holds of the values that a byte has, or would have if the power went, holds at the end, but for those that it is set to
kept_from : (P : ℕ → Type 0) (e : Export) (xs : List NbdExchange) (s t : Contents) (p : ℕ) → AreForExport e s xs → Runs e s xs t → P (slice_index s.bytes p) → P (slice_index s.durable p)
    → (P (slice_index t.bytes p) ⊎ IsSet e xs p (slice_index t.bytes p)) × (P (slice_index t.durable p) ⊎ IsSet e xs p (slice_index t.durable p))
kept_from P e [] s t p are same had had' =
    (inl (subst (λ (c : Contents). P (slice_index c.bytes p)) (sym same) had), inl (subst (λ (c : Contents). P (slice_index c.durable p)) (sym same) had'))
kept_from P e (x ∷ xs) s t p are (mid, one, more) had had' =
    let k : Result Task RequestError = task_of e x.request in
    let first = after_answer P e s mid x k p refl are.sized are.whole.0 one had had' in
    let later : AreForExport e mid xs = record { sized = sized_answer k s mid x one ∙ are.sized; whole = are.whole.1 } in
    let rest = kept_from (IsHadOrSet P (value_set_by e x.request p)) e xs mid t p later more first.0 first.1 in
    (regroup P e x xs p (slice_index t.bytes p) rest.0, regroup P e x xs p (slice_index t.durable p) rest.1)

pub kept_law : KeptOrSetLaw
kept_law e s t xs p are runs lasts = kept_from (λ (value : ℕ). value ≡ slice_index s.bytes p) e xs s t p are runs refl lasts

-- ---- what is done

pub on_ok : {P : Type 0} (answer : Result (List ℕ) RequestError) → IsOk answer → OnOk answer P → P
on_ok (Ok bytes) ok done = done
on_ok (Err e) ok done = (let no : ⊥ = cc in absurd no)

in_range : (o n p : ℕ) → o ≤ p → p < o + n → is_in o n p ≡ true
in_range o n p from to = search rules

last_by : (task : Task) (p : ℕ) → IsToLast task p → makes_last task p ≡ true
last_by task p (inl is) = ap (λ (k : Task). makes_last k p) is
last_by task p (inr (o, n, from, to, inl is)) = ap (λ (k : Task). makes_last k p) is ∙ in_range o n p from to
last_by task p (inr (o, n, from, to, inr (inl is))) = ap (λ (k : Task). makes_last k p) is ∙ in_range o n p from to
last_by task p (inr (o, n, from, to, inr (inr is))) = ap (λ (k : Task). makes_last k p) is ∙ in_range o n p from to

task_answers : (k : Result Task RequestError) (task : Task) (s t : Contents) (x : NbdExchange) → k ≡ Ok task → AnswersBy k s x t → AnswersBy (Ok task) s x t
task_answers k task s t x is answers = subst (λ (r : Result Task RequestError). AnswersBy r s x t) is answers

pub lasts_law : LastsLaw
lasts_law e s t x task p is last answers ok =
    let one = task_answers (task_of e x.request) task s t x is answers in
    on_ok x.answer ok one.1.lasts p (last_by task p last)

pub nothing_lost_law : NothingLostLaw
nothing_lost_law e s m t x xs task p is last are one ok runs =
    let later : AreForExport e m xs = record { sized = sized_answer (task_of e x.request) s m x one ∙ are.sized; whole = are.whole.1 } in
    let kept = kept_law e m t xs p later runs (lasts_law e s m x task p is last one ok) in
    kept.1

set_by : (k : Result Task RequestError) (e : Export) (s t : Contents) (x : NbdExchange) (p value : ℕ) → task_of e x.request ≡ k → length s.bytes ≡ e.size → IsNbdRequest x.request → AnswersBy k s x t → IsOk x.answer → value_by k x.request.body p ≡ Some value
    → slice_index t.bytes p ≡ value
set_by (Err error) e s t x p value asked size is answers ok sets = (let no : ⊥ = cc in absurd no)
set_by (Ok task) e s t x p value asked size is (sized, steps) ok sets =
    let byte = byte_law task x.request.body s.bytes (inside e x.request task (length s.bytes) asked size) (taken_of e x.request task is asked) in
    let now : t.bytes ≡ bytes_after task x.request.body s.bytes = on_ok x.answer ok steps.done in
    ap (λ (l : List ℕ). slice_index l p) now ∙ byte.1 p ∙ ap (λ (set : Option ℕ). unwrap_or set (slice_index s.bytes p)) sets

pub set_law : SetLaw
set_law e s t x p value are answers ok sets = set_by (task_of e x.request) e s t x p value refl are.sized are.whole.0 answers ok sets

-- ---- where no task fails

gave_so : (answer : Result (List ℕ) RequestError) (bytes : List ℕ) → IsOk answer → IfOk answer (λ l. l ≡ bytes) → answer ≡ Ok bytes
gave_so (Ok l) bytes ok is = ap (λ (k : List ℕ). Ok k) is
gave_so (Err e) bytes ok is = (let no : ⊥ = cc in absurd no)

done_one : (k : Result Task RequestError) (s t : Contents) (x : NbdExchange) → AnswersBy k s x t → ((task : Task) → k ≡ Ok task → IsOk x.answer) → (x.answer ≡ task_answer_by k s.bytes) × (t.bytes ≡ bytes_left_by k x.request.body s.bytes)
done_one (Err error) s t x (answer, same) done = (answer, ap (λ (c : Contents). c.bytes) same)
done_one (Ok task) s t x (sized, steps) done = (gave_so x.answer (bytes_given task s.bytes) (done task refl) steps.gave, on_ok x.answer (done task refl) steps.done)

exchange : NbdRequest → Result (List ℕ) RequestError → NbdExchange
exchange r answer = record { request = r; answer = answer }

pub done_law : DoneLaw
unfolding exchange
done_law e s t [] same all = (refl, ap (λ (c : Contents). c.bytes) same)
done_law e s t (x ∷ xs) (mid, one, more) all =
    let k : Result Task RequestError = task_of e x.request in
    let first = done_one k s mid x one all.0 in
    let rest = done_law e mid t xs more all.1 in (
      ap (λ (a : Result (List ℕ) RequestError). exchange x.request a ∷ xs) first.0
          ∙ ap (λ (l : List NbdExchange). exchange x.request (task_answer_by k s.bytes) ∷ l) (rest.0 ∙ ap (λ (b : List ℕ). array_exchanges e b (requests_in xs)) first.1),
      rest.1 ∙ ap (λ (b : List ℕ). bytes_left e b (requests_in xs)) first.1,
    )
