-- What it says of tests that a nest of them gave `Ok`.
use Rattle.std.specs.Prelude.{◌≡◌, Bool, true, false, cond, Ok, Err, Result, refl}

-- past a test that refuses
pub ok_past : {T E : Type 0} (b : Bool) (e : E) (r : Result T E) (y : T) → cond b (Err e) r ≡ Ok y → (b ≡ false) × (r ≡ Ok y)
ok_past true e r y h = absurd (cc)
ok_past false e r y h = (refl, h)

-- at a test that lets through
pub ok_at : {T E : Type 0} (b : Bool) (e : E) (r : Result T E) (y : T) → cond b r (Err e) ≡ Ok y → (b ≡ true) × (r ≡ Ok y)
ok_at true e r y h = (refl, h)
ok_at false e r y h = absurd (cc)

-- past a test that lets through a value
pub err_past : {T E : Type 0} (b : Bool) (x : T) (e y : E) → cond b (Ok x) (Err e) ≡ Err y → (b ≡ false) × (e ≡ y)
err_past true x e y h = absurd (cc)
err_past false x e y h = (refl, cc)

-- what `Ok` holds
pub ok_is : {T E : Type 0} {x y : T} → ◌≡◌ {A = Result T E} (Ok x) (Ok y) → x ≡ y
ok_is h = cc
