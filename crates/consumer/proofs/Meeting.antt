-- What a cycle meets, way by way, and how its request is sent.
use Rattle.std.proofs.Common.{◌≡◌, ℕ, ◌-◌, Bool, true, false, not, List, take, Some, None, Ok, sym, refl, ap, ◌∙◌, subst}
use Rattle.std.proofs.lemmas.Bool.{not-false, not-true}
use Rattle.carrier.proofs.Fetches.{fetched_some, fetched_none, fetched_octets}
use Rattle.carrier.proofs.Places.{taken_or_full}
use Rattle.carrier.specs.declared.lane.Lane.TheVariants.{Up, Down}
use Rattle.carrier.specs.Fetch.{Fetched}
use Rattle.carrier.specs.Lanes.{Lanes}
use Rattle.carrier.specs.Place.{Placed, Answer}
use Rattle.consumer.specs.declared.event.Turn.{Turn}
use Rattle.consumer.specs.declared.event.Turn.TheVariants.{Disabled, Started, Expired, Nothing}
use Rattle.consumer.specs.declared.inputs.Inputs.{Inputs}
use Rattle.consumer.specs.declared.state.State.{State}
use Rattle.consumer.specs.declared.state.TimedRequest.{TimedRequest}
use Rattle.consumer.specs.Cycled.{Met, SentSo}
use Rattle.consumer.specs.Judgment.{judged}
use Rattle.consumer.specs.Steps.{turn, turn_of, has_expired}
use Rattle.message.specs.declared.parameters.Parameters.{Parameters}
use Rattle.message.specs.Layout.{request_octets}
use Rattle.record.specs.Kind.{Format}

module _ {R : Type 0} {f : Format R} {p : Parameters} {c : State R} {i : Inputs} {k : Lanes} {s : List ℕ} where
  pub met_disabled : not i.enable ≡ true → Met f p c i k s k s Disabled
  unfolding turn
  met_disabled disabled =
      let off = not-true i.enable disabled in
      record { brought = None; fetched = rw off (refl, refl); turns = rw off; leaves = refl }

  module _ (enabled : not i.enable ≡ false) where
    pub met_started : c.standing ≡ None → Met f p c i k s k s Started
    unfolding turn
    met_started none =
        let on = not-false i.enable enabled in
        record { brought = None; fetched = rw (on, none) (refl, refl); turns = rw (on, none); leaves = refl }

    module _ (q : TimedRequest) (stands : c.standing ≡ Some q) {old : Bool} (is : old ≡ has_expired p c i.reading q) where
      pub met_expired : old ≡ true → Met f p c i k s k s Expired
      unfolding turn
      met_expired expired =
          let on = not-false i.enable enabled in
          let gone = sym is ∙ expired in
          record { brought = None; fetched = rw (on, stands, gone) (refl, refl); turns = rw (on, stands, gone); leaves = refl }

      module _ (lasts : old ≡ false) (l : Lanes) (t : List ℕ) where
        pub met_nothing : Fetched Down k l s t (Ok None) → Met f p c i k s l t Nothing
        unfolding turn
        met_nothing g =
            let on = not-false i.enable enabled in
            let alive = sym is ∙ lasts in
            let none = fetched_none Down k l s t g in
            record { brought = None; fetched = rw (on, stands, alive) none.0; turns = rw (on, stands, alive); leaves = none.1 }

        pub met_message : (n : ℕ) (x : Turn R) → Fetched Down k l s t (Ok (Some n)) → x ≡ turn_of (judged f p c.accepted q (take (n - 0) t))
            → Met f p c i k s l t x
        unfolding turn
        met_message n x g e =
            let on = not-false i.enable enabled in
            let alive = sym is ∙ lasts in
            let got = fetched_some Down k l s t n g in
            record {
              brought = Some got.message;
              fetched = rw (on, stands, alive) got.got;
              turns = rw (on, stands, alive) (e ∙ ap (λ m. turn_of (judged f p c.accepted q m)) (fetched_octets got.message s t n got.long got.leaves));
              leaves = got.leaves;
            }

-- nine octets are taken, or the lane is full
pub sent_so : (q : TimedRequest) (k l : Lanes) (r : Answer) → Placed Up (request_octets q.request) k l r → SentSo k (Some q) l
sent_so q k l r put =
    let (taken, is) = taken_or_full Up (request_octets q.request) k l r refl put in
    record { taken = taken; sent = subst (λ y. Placed Up (request_octets q.request) k l y) is put }
