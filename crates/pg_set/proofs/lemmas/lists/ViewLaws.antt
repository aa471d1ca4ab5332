-- What is made of messages one by one, by what it says.
use Rattle.std.proofs.Common.{◌≡◌, ℕ, Bool, Option, List}
use Rattle.pg_schema.specs.declared.parts.field.Element.{Element}
use Rattle.pg_schema.specs.declared.parts.field.EnumId.{EnumId}
use Rattle.pg_schema.specs.declared.parts.field.Presence.{Presence}
use Rattle.pg_schema.specs.declared.parts.field.TypeId.{TypeId}
use Rattle.pg_schema.specs.declared.parts.message_type.ReservedFields.{ReservedFields}
use Rattle.pg_set.specs.stated.Views.{FieldView, MethodView, ServiceView, TypeView}

pub same_method : {n n' : List ℕ} {i i' o o' : TypeId} {c c' s s' : Bool} {d d' : Option Bool} → n ≡ n' → i ≡ i' → o ≡ o' → c ≡ c' → s ≡ s' → d ≡ d'
    → ◌≡◌ {A = MethodView} (record { name = n; input = i; output = o; client_streaming = c; server_streaming = s; options = record { deprecated = d } })
    (record { name = n'; input = i'; output = o'; client_streaming = c'; server_streaming = s'; options = record { deprecated = d' } })
same_method name input output client server deprecated = cc

pub same_service : {n n' : List ℕ} {ms ms' : List MethodView} {d d' : Option Bool} → n ≡ n' → ms ≡ ms' → d ≡ d'
    → ◌≡◌ {A = ServiceView} (record { name = n; methods = ms; options = record { deprecated = d } }) (record { name = n'; methods = ms'; options = record { deprecated = d' } })
same_service name methods deprecated = cc

pub same_field : {k k' : ℕ} {n n' : List ℕ} {p p' : Presence} {e e' : Element} {o o' : Option ℕ} {j j' : List ℕ} {s s' : Bool} {packed packed' d d' : Option Bool}
    → k ≡ k' → n ≡ n' → p ≡ p' → e ≡ e' → o ≡ o' → j ≡ j' → s ≡ s' → packed ≡ packed' → d ≡ d'
    → ◌≡◌ {A = FieldView}
    (record { number = k; name = n; presence = p; element = e; oneof = o; json_name = j; states_optional = s; options = record { packed = packed; deprecated = d } })
    (record { number = k'; name = n'; presence = p'; element = e'; oneof = o'; json_name = j'; states_optional = s'; options = record { packed = packed'; deprecated = d' } })
same_field number name presence element oneof json_name optional packed deprecated = cc

pub same_type : {n n' : List ℕ} {fs fs' : List FieldView} {ds ds' : List ℕ} {os os' : List (List ℕ)} {ts ts' : List TypeId} {es es' : List EnumId} {rs rs' : List ReservedFields} {ns ns' : List (List ℕ)} {d d' : Option Bool}
    → n ≡ n' → fs ≡ fs' → ds ≡ ds' → os ≡ os' → ts ≡ ts' → es ≡ es' → rs ≡ rs' → ns ≡ ns' → d ≡ d'
    → ◌≡◌ {A = TypeView}
    (record { name = n; fields = fs; declared = ds; oneofs = os; nested_types = ts; nested_enums = es; reserved_numbers = rs; reserved_names = ns; options = record { deprecated = d } })
    (record { name = n'; fields = fs'; declared = ds'; oneofs = os'; nested_types = ts'; nested_enums = es'; reserved_numbers = rs'; reserved_names = ns'; options = record { deprecated = d' } })
same_type name fields declared oneofs types enums ranges names deprecated = cc
