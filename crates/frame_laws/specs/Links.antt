-- What is said of an exchange of a frame of a bus over a reader and a writer that tell their bytes.
use Rattle.std.specs.Prelude.{◌≡◌, ◌≢◌, ◌≤◌, ◌⊎◌, ℕ, List, [], ◌∷◌, ◌++◌, length, Option, Some}
use Rattle.page_layout.specs.Counter.{counted}
use Rattle.request_stream.specs.Streams.{EndsBy}
use Rattle.stream_bus.specs.Streamed.{StreamWords, Streamed}

-- all of the frame was written, and just its answer was read: a status, and behind a 0 the bytes that came out
pub record GoesWhole (written left : List ℕ) (written' left' : Option (List ℕ)) (frame out : List ℕ) (status : ℕ) : Type 0 where
  pub rest : List ℕ
  pub sent : written' ≡ Some (written ++ frame)
  pub remains : left' ≡ Some rest
  pub done : status ≡ 0 → left ≡ 0 ∷ (out ++ rest)
  pub other : status ≢ 0 → left ≡ status ∷ rest

-- a beginning of the frame was written, or all of it, and fewer bytes were read than a status 0 and the bytes that should come out
pub record GoesShort (written left : List ℕ) (written' left' : Option (List ℕ)) (frame out : List ℕ) : Type 0 where
  pub front : List ℕ
  pub more : List ℕ
  pub part : List ℕ
  pub rest : List ℕ
  pub split : front ++ more ≡ frame
  pub sent : written' ≡ Some (written ++ front)
  pub remains : left' ≡ Some rest
  pub read : left ≡ part ++ rest
  pub less : length part ≤ length out

-- why: the writer's or the reader's last call failed, or the reader has ended
abbrev pub HasBroken : {W R : Type 0} → StreamWords W R → W → R → Type 0
HasBroken t writer reader = EndsBy t.write_fails writer ⊎ EndsBy t.read_fails reader ⊎ (t.left reader ≡ Some [])

-- AN EXCHANGE WENT WHOLE, its frame handed on, and the count is as it was; or it was cut short for a cause, which is answered 6, and just one more is counted
abbrev pub ExchangeLaw : {W R : Type 0} → StreamWords W R → Type 0
ExchangeLaw {W} {R} t = (writer writer' : W) (reader reader' : R) (written left head bytes out : List ℕ) (failed failed' status : ℕ)
    → t.written writer ≡ Some written → t.left reader ≡ Some left → Streamed t writer writer' reader reader' failed failed' head bytes status out
    → (GoesWhole written left (t.written writer') (t.left reader') (head ++ bytes) out status × EndsBy t.hands writer' × (failed' ≡ failed))
    ⊎ (GoesShort written left (t.written writer') (t.left reader') (head ++ bytes) out × HasBroken t writer' reader' × (status ≡ 6) × (failed' ≡ counted failed))
