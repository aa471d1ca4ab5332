-- Files by what they say.
use Rattle.std.proofs.Common.{◌≡◌, ℕ, List}
use Rattle.pg_schema.specs.declared.parts.field.EnumId.{EnumId}
use Rattle.pg_schema.specs.declared.parts.field.TypeId.{TypeId}
use Rattle.pg_schema.specs.declared.parts.service.ServiceId.{ServiceId}
use Rattle.pg_set.specs.stated.Views.{FileView, ImportView, OptionView}

pub same_file : {n n' p p' : List ℕ} {is is' : List ImportView} {ts ts' : List TypeId} {es es' : List EnumId} {ss ss' : List ServiceId} {os os' : List OptionView} → n ≡ n' → p ≡ p' → is ≡ is' → ts ≡ ts' → es ≡ es' → ss ≡ ss' → os ≡ os'
    → ◌≡◌ {A = FileView} (record { name = n; package_name = p; imports = is; types = ts; enums = es; services = ss; options = os })
    (record { name = n'; package_name = p'; imports = is'; types = ts'; enums = es'; services = ss'; options = os' })
same_file name package_name imports types enums services options = cc
