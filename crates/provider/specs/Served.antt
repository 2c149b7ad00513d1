-- What a call of serve does.
use Rattle.std.specs.Prelude.{◌≡◌, ℕ, ◌+◌, Bool, true, false, List, ◌++◌, length, drop, Some, None, Err, Option, Result, nat_lt}
use Rattle.carrier.specs.declared.lane.Lane.TheVariants.{Up, Down}
use Rattle.carrier.specs.Fetch.{Brought, Got, brought_in}
use Rattle.carrier.specs.Lanes.{Lanes}
use Rattle.carrier.specs.Place.{Placed, place_answer}
use Rattle.message.specs.declared.flags.ResponseFlags.{ResponseFlags}
use Rattle.message.specs.declared.parameters.Parameters.{Parameters}
use Rattle.message.specs.declared.response.Response.{Response}
use Rattle.message.specs.Response.{longest, response_octets}
use Rattle.provider.specs.declared.answer.ServeAnswer.{ServeAnswer}
use Rattle.provider.specs.declared.answer.ServeRefusal.{ServeRefusal}
use Rattle.provider.specs.declared.answer.ServeRefusal.TheVariants.{ShortBuffer, UnsoundRecord}
use Rattle.provider.specs.Serve.{Memory, reply, remembered, told}
use Rattle.record.specs.Kind.{Format}

-- the response, if any, is placed on the down lane
abbrev pub Replied : {R : Type 0} → Format R → Parameters → Lanes → Option (Response R) → Bool → Lanes → Type 0
Replied f p before None taken after = (taken ≡ false) × (after ≡ before)
Replied f p before (Some r) taken after = Placed Down (response_octets f p r) before after (place_answer taken)

-- the response, if any, stands at the start of the buffer, and the rest is as it was
abbrev pub replied_in : {R : Type 0} → Format R → Parameters → Option (Response R) → List ℕ → List ℕ
replied_in f p None buffer = buffer
replied_in f p (Some r) buffer = response_octets f p r ++ drop (f.len + 25) buffer

-- a serve of a sound record: what its fetch brought, the lanes after that, and whether the response was taken
pub record ServedSo {R : Type 0} (f : Format R) (p : Parameters) (memory : Memory R) (r : R) (flags : ResponseFlags) (before : Lanes)
    (buffer : List ℕ) (memory' : Memory R) (after : Lanes) (buffer' : List ℕ) (answer : Result ServeAnswer ServeRefusal) : Type 0 where
  pub brought : Brought
  pub between : Lanes
  pub taken : Bool
  pub fetched : Got Up before between brought
  pub replied : Replied f p between (reply f memory r flags brought) taken after
  pub remembers : memory' ≡ remembered memory (reply f memory r flags brought)
  pub answers : answer ≡ told f memory brought taken
  pub leaves : buffer' ≡ replied_in f p (reply f memory r flags brought) (brought_in brought buffer)

-- a refusal before the fetch: memory, lanes and buffer stand
pub record ServeRefused {R : Type 0} (refusal : ServeRefusal) (memory : Memory R) (before : Lanes) (buffer : List ℕ) (memory' : Memory R)
    (after : Lanes) (buffer' : List ℕ) (answer : Result ServeAnswer ServeRefusal) : Type 0 where
  pub answers : answer ≡ Err refusal
  pub remembers : memory' ≡ memory
  pub lanes : after ≡ before
  pub leaves : buffer' ≡ buffer

-- a short buffer is refused first, then an unsound record
pub record Served {R : Type 0} (f : Format R) (p : Parameters) (memory : Memory R) (r : R) (flags : ResponseFlags) (before : Lanes)
    (buffer : List ℕ) (memory' : Memory R) (after : Lanes) (buffer' : List ℕ) (answer : Result ServeAnswer ServeRefusal) : Type 0 where
  pub short : nat_lt (length buffer) longest ≡ true → ServeRefused ShortBuffer memory before buffer memory' after buffer' answer
  pub unsound : nat_lt (length buffer) longest ≡ false → f.sound r ≡ false
      → ServeRefused UnsoundRecord memory before buffer memory' after buffer' answer
  pub served : nat_lt (length buffer) longest ≡ false → f.sound r ≡ true → ServedSo f p memory r flags before buffer memory' after buffer' answer
