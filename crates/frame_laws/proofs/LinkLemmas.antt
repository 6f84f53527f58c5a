-- What two streams that tell their bytes say of an exchange.
use Rattle.std.proofs.Common.{◌≡◌, ◌≢◌, ◌≤◌, ◌<◌, ◌⊎◌, ℕ, List, [], ◌∷◌, ◌++◌, length, Option, None, Some, refl, sym, ap, subst, ◌∙◌, append-nil, arith, inl, inr}
use Rattle.std.specs.Io.KnownBytes.{Appends, Consumes, IsAtEnd}
use Rattle.std.proofs.lemmas.Bool.{cases_eq}
use Rattle.stream_bus.specs.Streamed.{HasReadStopped, IsUnanswered, IsFrameUnsent, ReadsAnswer, StreamWords, WasCut}
use Rattle.frame_laws.specs.Links.{ExchangeLaw, GoesShort, GoesWhole, HasBroken}

appended : (written bytes : List ℕ) (before after : Option (List ℕ)) → before ≡ Some written → Appends before after bytes → after ≡ Some (written ++ bytes)
appended written bytes (Some one) None is grew = absurd grew
appended written bytes (Some one) (Some after) is grew = ap Some (grew ∙ ap (λ l. l ++ bytes) (let same : one ≡ written = cc in same))
appended written bytes None after is grew = (let never : ⊥ = cc in absurd never)

-- of the bytes left
remaining : (left bytes : List ℕ) (left' : Option (List ℕ)) → Consumes (Some left) left' bytes → (rest : List ℕ) × (left' ≡ Some rest) × (left ≡ bytes ++ rest)
remaining left bytes None lost = absurd lost
remaining left bytes (Some rest) lost = (rest, refl, lost)

whole : (written left frame out : List ℕ) (written' left' : Option (List ℕ)) (status : ℕ) → written' ≡ Some (written ++ frame) → ReadsAnswer (Some left) left' out status
    → GoesWhole written left written' left' frame out status
whole written left frame out written' None status sent answered =
    elim (cases_eq status 0) [ inl done ↦ absurd (answered.done done) | inr other ↦ absurd (answered.other other) ]
whole written left frame out written' (Some rest) status sent answered = record { rest = rest; sent = sent; remains = refl; done = answered.done; other = answered.other }

within : (part : List ℕ) (size : ℕ) → (part ≡ []) ⊎ ((rest : List ℕ) × (part ≡ 0 ∷ rest) × (length rest < size)) → length part ≤ size
within part size (inl none) = (let is : length part ≡ 0 = ap length none in omega (arith, is))
within part size (inr (rest, is, less)) = (let same : length part ≡ length (0 ∷ rest) = ap length is in omega (arith, same, less))

no_more : (left : Option (List ℕ)) (rest : List ℕ) → left ≡ Some rest → IsAtEnd left → left ≡ Some []
no_more None rest is ended = (let never : ⊥ = cc in absurd never)
no_more (Some bytes) rest is ended = ap Some ended

module _ {W R : Type 0} (t : StreamWords W R) (writer writer' : W) (reader reader' : R) (written left frame out : List ℕ) where
  -- a call of the writer failed
  unsent : t.written writer ≡ Some written → t.left reader ≡ Some left → IsFrameUnsent t.written t.write_fails writer writer' frame → reader' ≡ reader
      → GoesShort written left (t.written writer') (t.left reader') frame out × HasBroken t writer' reader'
  unsent wrote unread its same = (
    record {
      front = its.front.0;
      more = its.front.1;
      part = [];
      rest = left;
      split = its.front.2;
      sent = appended written its.front.0 (t.written writer) (t.written writer') wrote its.front.3;
      remains = ap t.left same ∙ unread;
      read = refl;
      less = omega arith;
    },
    inl its.cause,
  )

  -- no answer came
  unanswered : t.written writer ≡ Some written → t.left reader ≡ Some left → IsUnanswered t writer writer' reader reader' frame out
      → GoesShort written left (t.written writer') (t.left reader') frame out × HasBroken t writer' reader'
  unanswered wrote unread its =
      let end = remaining left its.part.part (t.left reader') (subst (λ b. Consumes b (t.left reader') its.part.part) unread its.part.read) in (
        record {
          front = frame;
          more = [];
          part = its.part.part;
          rest = end.0;
          split = append-nil frame;
          sent = appended written frame (t.written writer) (t.written writer') wrote its.went.sent;
          remains = end.1;
          read = end.2;
          less = within its.part.part (length out) its.part.cut;
        },
        elim its.cause [ inl failed ↦ inr (inl failed) | inr ended ↦ inr (inr (no_more (t.left reader') end.0 end.1 ended)) ],
      )

pub exchange : {W R : Type 0} (t : StreamWords W R) → ExchangeLaw t
exchange t writer writer' reader reader' written left head bytes out failed failed' status wrote unread (inl (went, same)) =
    inl (
      whole written left (head ++ bytes) out (t.written writer') (t.left reader') status (appended written (head ++ bytes) (t.written writer) (t.written writer') wrote went.went.sent)
          (subst (λ b. ReadsAnswer b (t.left reader') out status) unread went.answered),
      went.went.handed,
      same,
    )
exchange t writer writer' reader reader' written left head bytes out failed failed' status wrote unread (inr (inl (its, same), is, one)) =
    let cut = unsent t writer writer' reader reader' written left (head ++ bytes) out wrote unread its same in
    inr (cut.0, cut.1, is, one)
exchange t writer writer' reader reader' written left head bytes out failed failed' status wrote unread (inr (inr its, is, one)) =
    let cut = unanswered t writer writer' reader reader' written left (head ++ bytes) out wrote unread its in
    inr (cut.0, cut.1, is, one)
