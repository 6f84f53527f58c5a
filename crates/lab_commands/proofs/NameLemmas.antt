-- A name, byte by byte.
use Rattle.std.proofs.Common.{◌≡◌, ◌⊎◌, inl, inr, ℕ, zero, suc, ◌+◌, ◌<◌, List, [], ◌∷◌, ◌++◌, get_or, Option, refl, ap, sym, subst, ◌∙◌, append_assoc, append-nil, arith}
use Rattle.std.proofs.Math.Nat.{eq-or-lt_of_le}
use Rattle.std.specs.Io.KnownBytes.{Appends}
use Rattle.std.proofs.KnownBytes.{Appends-nil, Appends-trans}
use Rattle.request_stream.specs.Frames.{AppendsPart}
use Rattle.request_stream.proofs.Writing.{part_more, part_stop}
use Rattle.lab_commands.specs.Names.{shown_at, shown_below, shown_byte}

-- a byte of a name as it is printed, by what stands about it
pub shown_is : (name bytes : List ℕ) (place before byte behind : ℕ) → bytes ≡ name → before ≡ get_or (0 ∷ bytes) place 0 → byte ≡ get_or bytes place 0 → behind ≡ get_or bytes (suc place) 0 → shown_byte before byte behind ≡ shown_at name place
shown_is name bytes place before byte behind same first its last = rw (first, its, last, same) refl

-- nothing stands before the first byte
pub none_shown : (name : List ℕ) (a : Option (List ℕ)) → Appends a a (shown_below name 0)
unfolding shown_below
none_shown name a = Appends-nil a

-- one byte more
pub one_shown : (name : List ℕ) (n : ℕ) (a b d : Option (List ℕ)) → Appends a b (shown_below name n) → Appends b d (shown_at name n) → Appends a d (shown_below name (n + 1))
unfolding shown_below
one_shown name n a b d first last =
    let next : suc n ≡ n + 1 = omega arith in
    subst (λ (m : ℕ). Appends a d (shown_below name m)) next (Appends-trans a b d (shown_below name n) (shown_at name n) first last)

-- the first bytes, the next one, and the rest
shown_last : (name : List ℕ) (n k : ℕ) → ((l : n < k) → (rest : List ℕ) × (shown_below name n ++ (shown_at name n ++ rest) ≡ shown_below name k)) → (n ≡ k) ⊎ (n < k)
    → (rest : List ℕ) × (shown_below name n ++ (shown_at name n ++ rest) ≡ shown_below name k ++ shown_at name k)
shown_last name n k before (inl is) =
    ([], subst (λ m. shown_below name n ++ (shown_at name n ++ []) ≡ shown_below name m ++ shown_at name m) is (ap (λ t. shown_below name n ++ t) (append-nil (shown_at name n))))
shown_last name n k before (inr below) =
    let found = before below in
    (found.0 ++ shown_at name k, sym (append_assoc (shown_below name n) (shown_at name n ++ found.0) (shown_at name k) ∙ ap (λ t. shown_below name n ++ t) (append_assoc (shown_at name n) found.0 (shown_at name k))) ∙ ap (λ t. t ++ shown_at name k) found.1)

shown_split : (name : List ℕ) (n k : ℕ) → n < k → (rest : List ℕ) × (shown_below name n ++ (shown_at name n ++ rest) ≡ shown_below name k)
unfolding shown_below
shown_split name n zero l = absurd (omega arith)
shown_split name n (suc k) l = shown_last name n k (λ below. shown_split name n k below) (eq-or-lt_of_le (omega arith))

-- a part of one byte, behind those before it, is a part of the name
pub part_shown : (name : List ℕ) (n k : ℕ) (a b d : Option (List ℕ)) → n < k → Appends a b (shown_below name n) → AppendsPart b d (shown_at name n) → AppendsPart a d (shown_below name k)
part_shown name n k a b d l first part =
    let split = shown_split name n k l in
    part_more a b d (shown_below name n) (shown_at name n ++ split.0) (shown_below name k) split.1 first (part_stop b d (shown_at name n) split.0 (shown_at name n ++ split.0) refl part)
