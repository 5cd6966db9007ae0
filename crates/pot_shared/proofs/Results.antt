-- What holds of an answer holds of one that follows from it.
use Rattle.std.specs.Prelude.{Result, Ok, Err, OnOk, OnErr}

pub on_ok : {T E X Y : Type 0} (r : Result T E) → OnOk r X → (X → Y) → OnOk r Y
on_ok (Ok x) h f = f h
on_ok (Err e) h f = tt

pub on_err : {T E X Y : Type 0} (r : Result T E) → OnErr r X → (X → Y) → OnErr r Y
on_err (Ok x) h f = tt
on_err (Err e) h f = f h
