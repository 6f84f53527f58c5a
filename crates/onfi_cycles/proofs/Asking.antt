-- Cycles that are asked of a bus one after another.
use Rattle.std.proofs.Common.{◌≡◌, ℕ, List, [], ◌∷◌, ◌++◌, refl, sym, ◌∙◌, ap, subst, inl, inr, Result, Ok, Err, length, get_or}
use Rattle.std.proofs.lemmas.List.{append-nil, append_assoc}
use Rattle.onfi_cycles.specs.Cycles.{Cycle}
use Rattle.onfi_cycles.specs.Spelling.{done, refused}
use Rattle.onfi_cycles.specs.Sent.{Sent, SentUntil, Sends, Operates}
use Rattle.onfi_cycles.specs.Outcomes.{outcome_of}
use Rattle.onfi_cycles.specs.declared.nand.BusFault.{BusFault}
use Rattle.onfi_cycles.specs.declared.nand.Outcome.{Outcome}

-- ---- lists that follow one another

pub sent_then : {B : Type 0} → (called : B → Cycle → Result (Unit {0}) BusFault → List ℕ → B → Type 0) (a b c : B) (xs ys : List Cycle) (out more : List ℕ)
    → Sent called a xs out b → Sent called b ys more c → Sent called a (xs ++ ys) (out ++ more) c
sent_then called a b c [] ys out more s t = subst (λ o. Sent called a ys (o ++ more) c) (sym s.0) (subst (λ d. Sent called d ys more c) s.1 t)
sent_then called a b c (x ∷ xs) ys out more s t = (
  s.0,
  s.1,
  s.2 ++ more,
  ap (λ o. o ++ more) s.3 ∙ append_assoc s.1 s.2 more,
  s.4,
  sent_then called s.0 b c xs ys s.2 more s.5 t,
)

pub until_then : {B : Type 0} → (called : B → Cycle → Result (Unit {0}) BusFault → List ℕ → B → Type 0) (a b c : B) (xs ys : List Cycle) (out : List ℕ) (fault : BusFault)
    → Sent called a xs out b → SentUntil called b ys fault c → SentUntil called a (xs ++ ys) fault c
until_then called a b c [] ys out fault s t = subst (λ d. SentUntil called d ys fault c) s.1 t
until_then called a b c (x ∷ xs) ys out fault s t = inr (s.0, s.1, s.4, until_then called s.0 b c xs ys s.2 fault s.5 t)

pub until_first : {B : Type 0} → (called : B → Cycle → Result (Unit {0}) BusFault → List ℕ → B → Type 0) (a c : B) (xs ys : List Cycle) (fault : BusFault)
    → SentUntil called a xs fault c → SentUntil called a (xs ++ ys) fault c
until_first called a c [] ys fault h = absurd h
until_first called a c (x ∷ xs) ys fault (inl h) = inl h
until_first called a c (x ∷ xs) ys fault (inr h) = inr (h.0, h.1, h.2, until_first called h.0 c xs ys fault h.3)

-- cycles that put nothing out, and then others
pub sends_then : {A B : Type 0} → (called : B → Cycle → Result (Unit {0}) BusFault → List ℕ → B → Type 0) (a b c : B) (xs ys : List Cycle) (out : A → List ℕ) (r : Result A BusFault)
    → Sent called a xs [] b → Sends called b ys out r c → Sends called a (xs ++ ys) out r c
sends_then called a b c xs ys out (Ok x) s t = sent_then called a b c xs ys [] (out x) s t
sends_then called a b c xs ys out (Err fault) s t = until_then called a b c xs ys [] fault s t

-- ---- one cycle

pub sent_one : {B : Type 0} → (called : B → Cycle → Result (Unit {0}) BusFault → List ℕ → B → Type 0) (a b : B) (x : Cycle) (out : List ℕ) → called a x done out b → Sent called a (x ∷ []) out b
sent_one called a b x out h = (b, out, [], sym (append-nil out), h, (refl, refl))

pub until_one : {B : Type 0} → (called : B → Cycle → Result (Unit {0}) BusFault → List ℕ → B → Type 0) (a b : B) (x : Cycle) (out : List ℕ) (fault : BusFault)
    → called a x (refused fault) out b → SentUntil called a (x ∷ []) fault b
until_one called a b x out fault h = inl (out, h)

-- whose answer is handed on
pub sends_one : {B : Type 0} → (called : B → Cycle → Result (Unit {0}) BusFault → List ℕ → B → Type 0) (a b : B) (x : Cycle) (out : List ℕ) (r : Result (Unit {0}) BusFault)
    → called a x r out b → Sends called a (x ∷ []) (λ _. out) r b
sends_one called a b x out (Ok v) h = sent_one called a b x out h
sends_one called a b x out (Err fault) h = inl (out, h)

-- at the head of others, with nothing put out
pub sends_more : {A B : Type 0} → (called : B → Cycle → Result (Unit {0}) BusFault → List ℕ → B → Type 0) (a b c : B) (x : Cycle) (ys : List Cycle) (out : A → List ℕ) (r : Result A BusFault)
    → called a x done [] b → Sends called b ys out r c → Sends called a (x ∷ ys) out r c
sends_more called a b c x ys out (Ok v) h t = (b, [], out v, refl, h, t)
sends_more called a b c x ys out (Err fault) h t = inr (b, [], h, t)

pub until_more : {B : Type 0} → (called : B → Cycle → Result (Unit {0}) BusFault → List ℕ → B → Type 0) (a b c : B) (x : Cycle) (ys : List Cycle) (out : List ℕ) (fault : BusFault)
    → called a x done out b → SentUntil called b ys fault c → SentUntil called a (x ∷ ys) fault c
until_more called a b c x ys out fault h t = inr (b, out, h, t)

-- with bytes put out
pub sent_more : {B : Type 0} → (called : B → Cycle → Result (Unit {0}) BusFault → List ℕ → B → Type 0) (a b c : B) (x : Cycle) (ys : List Cycle) (out more : List ℕ)
    → called a x done out b → Sent called b ys more c → Sent called a (x ∷ ys) (out ++ more) c
sent_more called a b c x ys out more h t = (b, out, more, refl, h, t)

-- ---- operations

-- the status byte was taken
pub operates_ok : {B : Type 0} → (called : B → Cycle → Result (Unit {0}) BusFault → List ℕ → B → Type 0) (a b : B) (xs : List Cycle) (status : ℕ) (r : Result Outcome BusFault)
    → Sent called a xs (status ∷ []) b → r ≡ outcome_of status → Operates called a xs r b
operates_ok called a b xs status r s e = inl (status, e, s)

pub operates_err : {B : Type 0} → (called : B → Cycle → Result (Unit {0}) BusFault → List ℕ → B → Type 0) (a b : B) (xs : List Cycle) (fault : BusFault) (r : Result Outcome BusFault)
    → SentUntil called a xs fault b → r ≡ Err fault → Operates called a xs r b
operates_err called a b xs fault r s e = inr (fault, e, s)

-- at the head of others, with bytes put out
pub sends_after : {A B : Type 0} → (called : B → Cycle → Result (Unit {0}) BusFault → List ℕ → B → Type 0) (a b c : B) (x : Cycle) (ys : List Cycle) (first later : List ℕ) (r : Result A BusFault)
    → called a x done first b → Sends called b ys (λ _. later) r c → Sends called a (x ∷ ys) (λ _. first ++ later) r c
sends_after called a b c x ys first later (Ok v) h t = (b, first, later, refl, h, t)
sends_after called a b c x ys first later (Err fault) h t = inr (b, first, h, t)

-- one byte as a list
pub one_byte : (xs : List ℕ) → length xs ≡ 1 → xs ≡ get_or xs 0 0 ∷ []
one_byte [] e = cc
one_byte (x ∷ []) e = refl
one_byte (x ∷ y ∷ xs) e = cc
