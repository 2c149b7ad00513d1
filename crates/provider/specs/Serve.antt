-- What a serve answers, sends and remembers.
use Rattle.std.specs.Prelude.{ℕ, Bool, false, cond, ◌&&◌, Some, None, Ok, Err, Option, Result, ◌==◌}
use Rattle.carrier.specs.declared.lane.FetchRefusal.{FetchRefusal}
use Rattle.carrier.specs.Fetch.{Brought}
use Rattle.message.specs.declared.flags.ResponseFlags.{ResponseFlags}
use Rattle.message.specs.declared.request.Request.{Request}
use Rattle.message.specs.declared.response.BuildRefusal.{BuildRefusal}
use Rattle.message.specs.declared.response.Response.{Response}
use Rattle.message.specs.Layout.{request_read}
use Rattle.message.specs.Response.{response_of}
use Rattle.provider.specs.declared.answer.ServeAnswer.{ServeAnswer}
use Rattle.provider.specs.declared.answer.ServeAnswer.TheVariants.{Idle, New, Again}
use Rattle.provider.specs.declared.answer.ServeRefusal.{ServeRefusal}
use Rattle.provider.specs.declared.answer.ServeRefusal.TheVariants.{ShortBuffer, UnsoundRecord, NotARequest, Full}
use Rattle.record.specs.Kind.{Format}

abbrev pub serve_number : ServeRefusal → ℕ
serve_number ShortBuffer = 7
serve_number UnsoundRecord = 8
serve_number NotARequest = 11
serve_number Full = 10

-- a refusal to fetch, as one to serve
abbrev pub refused_fetching : FetchRefusal → ServeRefusal
refused_fetching FetchRefusal.ShortBuffer = ShortBuffer

-- a refusal to build, as one to serve
abbrev pub refused_building : BuildRefusal → ServeRefusal
refused_building BuildRefusal.ShortBuffer = ShortBuffer
refused_building BuildRefusal.UnsoundRecord = UnsoundRecord

-- the response that went out last, if any
abbrev pub Memory : Type 0 → Type 0
Memory R = Option (Response R)

-- has the request the consumer and monitoring numbers of the one answered last? What is remembered is always sound; the
-- test of that makes the step total
abbrev pub is_again : {R : Type 0} → Format R → Memory R → Request → Bool
is_again f None q = false
is_again f (Some last) q =
    f.sound last.safety_data
    && (last.consumer_id == q.consumer_id && last.monitoring_number == q.monitoring_number)

-- the given record and flags, with both numbers of the request
abbrev pub new_response : {R : Type 0} → R → ResponseFlags → Request → Response R
new_response r flags q = response_of r flags q.consumer_id q.monitoring_number

-- the response to a request: what went out last goes out again to the same request, else the given record and flags
abbrev pub response_to : {R : Type 0} → Format R → Memory R → R → ResponseFlags → Request → Response R
response_to f None r flags q = new_response r flags q
response_to f (Some last) r flags q = cond (is_again f (Some last) q) last (new_response r flags q)

abbrev pub reply_to : {R : Type 0} → Format R → Memory R → R → ResponseFlags → Option Request → Option (Response R)
reply_to f memory r flags None = None
reply_to f memory r flags (Some q) = Some (response_to f memory r flags q)

-- what a serve sends, of what its fetch brought: nothing where that is no request
abbrev pub reply : {R : Type 0} → Format R → Memory R → R → ResponseFlags → Brought → Option (Response R)
reply f memory r flags None = None
reply f memory r flags (Some m) = reply_to f memory r flags (request_read m)

-- what is sent is remembered
abbrev pub remembered : {R : Type 0} → Memory R → Option (Response R) → Memory R
remembered memory None = memory
remembered memory (Some sent) = Some sent

abbrev pub told_of : {R : Type 0} → Format R → Memory R → Request → ServeAnswer
told_of f memory q = cond (is_again f memory q) (Again q) (New q)

abbrev pub told_to : {R : Type 0} → Format R → Memory R → Bool → Option Request → Result ServeAnswer ServeRefusal
told_to f memory taken None = Err NotARequest
told_to f memory taken (Some q) = cond taken (Ok (told_of f memory q)) (Err Full)

-- what a serve tells: idle, the request's fields and whether it was new or again, or why it did not answer
abbrev pub told : {R : Type 0} → Format R → Memory R → Brought → Bool → Result ServeAnswer ServeRefusal
told f memory None taken = Ok Idle
told f memory (Some m) taken = told_to f memory taken (request_read m)
