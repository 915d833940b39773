-- When dropping all but what is put loses nothing.
use Rattle.std.specs.Prelude.{◌≡◌, Bool, false, Option, None}

-- nothing is held but what the test takes
abbrev pub IsAlone : {K V : Type 0} → (K → Bool) → (K → Option V) → Type 0
IsAlone {K} test held = (q : K) → test q ≡ false → held q ≡ None
