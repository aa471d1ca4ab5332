-- Why reading stops, handed on.
use Rattle.std.proofs.Common.{◌≡◌, Result, Err, IfErr, OnOk, sym, subst}
use Rattle.std.specs.Result.{IsErrAnd}
use Rattle.std.proofs.lemmas.Result.{err_from_is_err_and}
use Rattle.pg_dyn.specs.declared.reading.stop.Stop.{Stop}
use Rattle.pg_dyn.specs.declared.reading.stop.Stop.TheVariants as stops
use Rattle.pg_dyn.specs.reading.ByFields.{StopsFor}

-- what stops for more stops for less
pub stops_for : (More Less : Type 0) → (Less → More) → (e : Stop) → StopsFor More e → StopsFor Less e
stops_for More Less w stops.Memory h = tt
stops_for More Less w stops.Fault h = λ k. h (w k)

-- an error that a call hands on
pub handed_on : {T E : Type 0} (P : E → Type 0) (result : Result T E) (x y : E) → result ≡ Err y → y ≡ x → P x → IfErr result P
handed_on P result x y is from h = subst (λ r. IfErr r P) (sym is) (subst P (sym from) h)

-- a `?` hands on why a call stops: of less, where more follows from it
pub stopped : {T : Type 0} (More Less : Type 0) (result : Result T Stop) (x : Stop) → IsErrAnd result (λ y. y ≡ x) → (Less → More) → StopsFor More x
    → IfErr result (StopsFor Less)
stopped More Less result x h w k = let (y, is, from) = err_from_is_err_and result h in handed_on (StopsFor Less) result x y is from (stops_for More Less w x k)

-- a call that stops gives nothing
pub none_of_err : {T : Type 0} (P : Type 0) (result : Result T Stop) (y : Stop) → result ≡ Err y → OnOk result P
none_of_err P result y is = subst (λ r. OnOk r P) (sym is) tt
