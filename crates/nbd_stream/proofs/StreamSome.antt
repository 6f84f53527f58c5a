-- Every stream of bytes is requests and a rest.
use Rattle.std.proofs.Common.{◌≡◌, ◌<◌, ◌≤◌, ◌+◌, ◌==◌, ◌&&◌, ℕ, Bool, List, [], ◌∷◌, ◌++◌, length, take, drop, get_or, refl, zero, suc}
use Rattle.std.proofs.Common.{sym, ap, ◌∙◌, subst, arith, rules, inl, inr, append_assoc, length-drop, length-take-le, take-append-drop, get_or-drop}
use Rattle.std.proofs.Common.{true, false, slice_index}
use Rattle.std.proofs.lemmas.Bool.{cases_lt}
use Rattle.std.proofs.lemmas.Bool.Decides.{eqb_tells}
use Rattle.std.specs.List.{flat_map}
use Rattle.promises.specs.Stream.{IsBytes}
use Rattle.nbd_stream.specs.Frames.{NbdRequest, IsNbdRequest, SpellsHeader, begins_with_magic, is_end, nbd_header_bytes, nbd_request_bytes, request_with_body, counted_body_length, IsTransmissionRest, SplitsTransmissionSomehow, TransmissionSomeWayLaw}
use Rattle.nbd_stream.specs.declared.request.NbdHeader.{NbdHeader}
use Rattle.nbd_stream.specs.declared.request.StreamEnd.{StreamEnd}
use Rattle.nbd_stream.specs.declared.request.StreamEnd.TheVariants.{Boundary, Unfinished, BadFrame, Disconnected}
use Rattle.nbd_stream.proofs.Parsing.{spelled, header_in, reads_in}
use Rattle.nbd_stream.proofs.Reading.{header_is, ends_so}

small_take : (n : ℕ) (xs : List ℕ) → ((i : ℕ) → get_or xs i 0 < 256) → (i : ℕ) → get_or (take n xs) i 0 < 256
small_take zero xs small i = omega arith
small_take (suc n) [] small i = small i
small_take (suc n) (x ∷ xs) small zero = small zero
small_take (suc n) (x ∷ xs) small (suc i) = small_take n xs (λ j. small (suc j)) i

magic_parts : (a b c d : ℕ) → (a == 37 && b == 96 && c == 149 && d == 19) ≡ true → (a ≡ 37) × (b ≡ 96) × (c ≡ 149) × (d ≡ 19)
magic_parts a b c d e = search rules

header_found : (xs : List ℕ) → 28 ≤ length xs → IsBytes xs → begins_with_magic (take 28 xs) ≡ true → SpellsHeader (take 28 xs) (header_in (take 28 xs))
header_found xs long bytes good =
    let front = take 28 xs in
    let magic = magic_parts (slice_index front 0) (slice_index front 1) (slice_index front 2) (slice_index front 3) good in
    spelled front (header_in front) (length-take-le 28 xs long) (small_take 28 xs bytes) magic.0 magic.1 magic.2 magic.3 (reads_in front)

-- a header that does not end the transmission
goes_on : (xs : List ℕ) (h : NbdHeader) → SpellsHeader xs h → is_end xs ≡ false → (h.code == 2) ≡ false
goes_on xs h spells more =
    elim (eqb_tells h.code 2) [
      | inl e ↦ let ends = ends_so h xs spells e.1 in (let no : ⊥ = cc in absurd no)
      | inr a ↦ a.0
    ]

-- nothing but a rest
just_rest : (end : StreamEnd) (xs : List ℕ) → IsTransmissionRest end xs → SplitsTransmissionSomehow xs
just_rest end xs is = record { requests = []; end = end; rest = xs; splits = record { whole = refl; each = tt; ends = is } }

short_rest : (xs : List ℕ) → length xs < 28 → SplitsTransmissionSomehow xs
short_rest [] h = just_rest Boundary [] refl
short_rest (c ∷ cs) h = just_rest Unfinished (c ∷ cs) (omega arith, inl h)

module _ (n : ℕ) (more : (ys : List ℕ) → length ys ≤ n → IsBytes ys → SplitsTransmissionSomehow ys) where
  with_header : (xs : List ℕ) (h : NbdHeader) → 28 ≤ length xs → length xs ≤ suc n → IsBytes xs → SpellsHeader (take 28 xs) h → (h.code == 2) ≡ false → SplitsTransmissionSomehow xs
  with_header xs h long bound bytes spells on =
      let rest = drop 28 xs in
      let k = counted_body_length h.code h.count in
      let begins : xs ≡ nbd_header_bytes (request_with_body h []) ++ rest = sym (take-append-drop 28 xs) ∙ ap (λ (l : List ℕ). l ++ rest) spells.whole in
      elim (cases_lt (length rest) k) [
        | inl short ↦ just_rest Unfinished xs (omega arith, inr (request_with_body h rest, header_is h (take 28 xs) rest spells on, short, begins))
        | inr whole ↦
            let r : NbdRequest = request_with_body h (take k rest) in
            let left = drop k rest in
            let least : length left ≤ n = omega (arith, length-drop k rest, length-drop 28 xs) in
            let small : IsBytes left = λ i. subst (λ (m : ℕ). m < 256) (sym (get_or-drop k rest i 0 ∙ get_or-drop 28 xs (k + i) 0)) (bytes (28 + (k + i))) in
            let later = more left least small in
            let split : rest ≡ take k rest ++ left = sym (take-append-drop k rest) in
            let fits : IsNbdRequest r = record { header = header_is h (take 28 xs) (take k rest) spells on; body = length-take-le k rest whole } in
            record {
              requests = r ∷ later.requests;
              end = later.end;
              rest = later.rest;
              splits = record {
                whole = begins ∙ ap (λ (l : List ℕ). nbd_header_bytes r ++ l) (split ∙ ap (λ (l : List ℕ). take k rest ++ l) later.splits.whole)
                    ∙ sym (append_assoc (nbd_header_bytes r) (take k rest) (flat_map nbd_request_bytes later.requests ++ later.rest))
                    ∙ sym (append_assoc (nbd_request_bytes r) (flat_map nbd_request_bytes later.requests) later.rest);
                each = (fits, later.splits.each);
                ends = later.splits.ends;
              };
            }
      ]

  by_end : (b : Bool) (xs : List ℕ) → is_end (take 28 xs) ≡ b → 28 ≤ length xs → length xs ≤ suc n → IsBytes xs → begins_with_magic (take 28 xs) ≡ true → SplitsTransmissionSomehow xs
  by_end true xs ends long bound bytes good = just_rest Disconnected xs (long, good, ends)
  by_end false xs on long bound bytes good =
      let spells = header_found xs long bytes good in
      with_header xs (header_in (take 28 xs)) long bound bytes spells (goes_on (take 28 xs) (header_in (take 28 xs)) spells on)

  by_header : (b : Bool) (xs : List ℕ) → begins_with_magic (take 28 xs) ≡ b → 28 ≤ length xs → length xs ≤ suc n → IsBytes xs → SplitsTransmissionSomehow xs
  by_header false xs bad long bound bytes = just_rest BadFrame xs (long, bad)
  by_header true xs good long bound bytes = by_end (is_end (take 28 xs)) xs refl long bound bytes good

of_length : (n : ℕ) (xs : List ℕ) → length xs ≤ n → IsBytes xs → SplitsTransmissionSomehow xs
of_length zero xs bound bytes = short_rest xs (omega arith)
of_length (suc n) xs bound bytes =
    elim (cases_lt (length xs) 28) [
      | inl short ↦ short_rest xs short
      | inr long ↦ by_header n (of_length n) (begins_with_magic (take 28 xs)) xs refl long bound bytes
    ]

pub some_way : TransmissionSomeWayLaw
some_way xs bytes = of_length (length xs) xs (omega arith) bytes
