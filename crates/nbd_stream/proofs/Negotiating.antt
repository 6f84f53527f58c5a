-- How a negotiation goes on, and how it ends.
use Rattle.std.proofs.Common.{◌≡◌, ℕ, Bool, List, [], ◌∷◌, ◌++◌, Option, Some, None, Ok, Err, refl, sym, ap, ◌∙◌, subst, inl, inr, lit<}
use Rattle.std.proofs.Common.{append_assoc, append-nil}
use Rattle.std.specs.List.{flat_map, AllByRecursion}
use Rattle.std.specs.Io.KnownBytes.{Appends, Consumes}
use Rattle.std.proofs.KnownBytes.{Appends-trans, Appends-nil, Consumes-trans, Consumes-nil}
use Rattle.request_stream.specs.Frames.{AppendsFront, SendsBytes}
use Rattle.request_stream.specs.declared.reply.ServeFault.{ServeFault}
use Rattle.request_stream.specs.declared.reply.ServeFault.TheVariants as fault
use Rattle.nbd_stream.specs.declared.export.Export.{Export}
use Rattle.nbd_stream.specs.declared.answer.Answer.{Answer}
use Rattle.nbd_stream.specs.declared.answer.AnswerStep.{AnswerStep}
use Rattle.nbd_stream.specs.declared.answer.AnswerStep.TheVariants.{More}
use Rattle.nbd_stream.specs.declared.option.OptionHeader.{OptionHeader}
use Rattle.nbd_stream.specs.declared.option.NextOption.TheVariants as next
use Rattle.nbd_stream.specs.declared.request.StreamEnd.{StreamEnd}
use Rattle.nbd_stream.specs.declared.negotiation.Negotiated.{Negotiated}
use Rattle.nbd_stream.specs.declared.negotiation.Negotiated.TheVariants.{Ended}
use Rattle.nbd_stream.specs.Options.{AskedOption, IsData, IsOption, ReadsOption, option_answer_bytes, answer_to_option, asked_option, option_bytes, reply_to, step_after, step_of}
use Rattle.nbd_stream.specs.Negotiation.{AnswersNext, AnswersOptions, HasAnsweredOption, HaveAnswered}

-- ---- one option

-- the answer that is found is the option's, whatever its data
abbrev pub Answering : ℕ → List ℕ → OptionHeader → Answer → Type 0
Answering limit buffer h answer = (body : List ℕ) → IsData h buffer body → answer ≡ answer_to_option limit (asked_option h.code body)

module _ (e : Export) (no_zeroes : Bool) (limit : ℕ) (u v b : Option (List ℕ)) (buffer : List ℕ) where
  pub next_unread : (f : ServeFault) → ReadsOption u v buffer (Err f) → AnswersNext e no_zeroes limit u v b b (Err f)
  next_unread f (is, tail, begins, read) =
      subst (λ k. AnswersNext e no_zeroes limit u v b b (Err k)) (sym is) (record { tail = tail; is = begins; read = read; kept = refl })

  pub next_ended : (end : StreamEnd) → ReadsOption u v buffer (Ok (next.Ended end)) → AnswersNext e no_zeroes limit u v b b (Ok (Some (Ended end)))
  next_ended end (tail, rests, read) = inr (record { tail = tail; is = rests; read = read; kept = refl })

  module _ (a : Option (List ℕ)) (h : OptionHeader) (answer : Answer) (whole : ReadsOption u v buffer (Ok (next.Whole h))) (answers : Answering limit buffer h answer) where
    pub next_unsent : (f : ServeFault) → SendsBytes {T = Unit {0}} b a (option_answer_bytes e no_zeroes h.code answer) (Err f) → AnswersNext e no_zeroes limit u v b a (Err f)
    next_unsent f (is, front) =
        let due = answers whole.0 whole.1 in
        subst (λ k. AnswersNext e no_zeroes limit u v b a (Err k)) (sym is) (record {
          option = asked_option h.code whole.0;
          is = whole.2;
          read = whole.3;
          written = subst (λ (x : Answer). AppendsFront b a (option_answer_bytes e no_zeroes h.code x)) due front;
        })

    pub next_sent : (step : AnswerStep) → Appends b a (option_answer_bytes e no_zeroes h.code answer) → step ≡ step_after h.code answer → HasAnsweredOption e no_zeroes limit u v (Appends b a) step
    next_sent step wrote follows =
        let due = answers whole.0 whole.1 in
        record {
          option = asked_option h.code whole.0;
          is = whole.2;
          read = whole.3;
          step_is = sym (follows ∙ ap (step_after h.code) due);
          written = subst (λ (x : Answer). Appends b a (option_answer_bytes e no_zeroes h.code x)) due wrote;
        }

-- ---- many

pub all_more : {X : Type 0} (P : X → Type 0) (xs : List X) (x : X) → AllByRecursion P xs → P x → AllByRecursion P (xs ++ x ∷ [])
all_more P [] x all one = (one, tt)
all_more P (y ∷ xs) x all one = (all.0, all_more P xs x all.1 one)

pub map_more : {X : Type 0} (f : X → List ℕ) (xs : List X) (x : X) → flat_map f (xs ++ x ∷ []) ≡ flat_map f xs ++ f x
map_more f [] x = append-nil (f x)
map_more f (y ∷ xs) x = ap (λ (l : List ℕ). f y ++ l) (map_more f xs x) ∙ sym (append_assoc (f y) (flat_map f xs) (f x))

-- some options were answered, and after each another one follows
abbrev pub IsNegotiating : Export → Bool → ℕ → (unread left before after : Option (List ℕ)) → Type 0
IsNegotiating e no_zeroes limit u v b a = (options : List AskedOption) × HaveAnswered e no_zeroes limit u v b a options

module _ (e : Export) (no_zeroes : Bool) (limit : ℕ) (u b : Option (List ℕ)) where
  pub negotiating_none : IsNegotiating e no_zeroes limit u u b b
  negotiating_none = ([], record { each = tt; more = tt; read = Consumes-nil u; written = Appends-nil b })

  module _ (m n v a : Option (List ℕ)) (so_far : IsNegotiating e no_zeroes limit u m b n) where
    pub negotiating_more : AnswersNext e no_zeroes limit m v n a (Ok None) → IsNegotiating e no_zeroes limit u v b a
    negotiating_more one = (
      so_far.0 ++ one.option ∷ [],
      record {
        each = all_more IsOption so_far.0 one.option so_far.1.each one.is;
        more = all_more (λ o. step_of limit o ≡ More) so_far.0 one.option so_far.1.more one.step_is;
        read = subst (Consumes u v) (sym (map_more option_bytes so_far.0 one.option)) (Consumes-trans u m v _ _ so_far.1.read one.read);
        written = subst (Appends b a) (sym (map_more (reply_to e no_zeroes limit) so_far.0 one.option)) (Appends-trans b n a _ _ so_far.1.written one.written);
      },
    )

    pub negotiating_done : (negotiated : Negotiated) → AnswersNext e no_zeroes limit m v n a (Ok (Some negotiated)) → AnswersOptions e no_zeroes limit u v b a (Ok negotiated)
    negotiating_done negotiated last = (so_far.0, m, n, so_far.1, last)

    pub negotiating_stopped : (f : ServeFault) → AnswersNext e no_zeroes limit m v n a (Err f) → AnswersOptions e no_zeroes limit u v b a (Err f)
    negotiating_stopped f last = (so_far.0, m, n, so_far.1, last)

  -- after as many options as can be counted no more is read
  module _ (m n : Option (List ℕ)) (so_far : IsNegotiating e no_zeroes limit u m b n) where
    pub negotiating_full : AnswersOptions e no_zeroes limit u m b n (Err fault.Read)
    negotiating_full = (so_far.0, m, n, so_far.1, record { tail = []; is = inl (lit< tt); read = Consumes-nil m; kept = refl })
