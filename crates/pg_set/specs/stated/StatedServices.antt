-- The services that a set states, as a function of its messages (descriptor.proto, `ServiceDescriptorProto`). None
-- where what a method names is no message type.
use Rattle.std.specs.Prelude.{List, Option, option_map}
use Rattle.pg_schema.specs.declared.parts.field.TypeId.{TypeId}
use Rattle.pg_dyn.specs.message.Message.{Message}
use Rattle.pg_set.specs.stated.Outlines.{Row}
use Rattle.pg_set.specs.declared.descriptor.proto.TheConstants as proto
use Rattle.pg_set.specs.stated.SetMessages.{children_at, flag_at, maybe_flag_at, maybe_text_at, options_at, text_at}
use Rattle.pg_set.specs.stated.StatedNames.{NameLookup, both, each, type_meant, undotted}
use Rattle.pg_set.specs.stated.Views.{MethodView, ServiceView}

abbrev pub method_of : Message → TypeId → TypeId → MethodView
method_of m input output = record {
  name = text_at proto.METHOD_NAME m;
  input = input;
  output = output;
  client_streaming = flag_at proto.METHOD_CLIENT_STREAMING m;
  server_streaming = flag_at proto.METHOD_SERVER_STREAMING m;
  options = record { deprecated = maybe_flag_at proto.METHOD_DEPRECATED (options_at proto.METHOD_OPTIONS m) };
}

-- what is sent is looked at before what is answered
abbrev pub method : NameLookup → Message → Option MethodView
method means m =
    both (method_of m) (type_meant means (maybe_text_at proto.METHOD_INPUT_TYPE m)) (type_meant means (maybe_text_at proto.METHOD_OUTPUT_TYPE m))

abbrev pub service_of : Row → List MethodView → ServiceView
service_of r methods = record {
  name = undotted r.0;
  methods = methods;
  options = record { deprecated = maybe_flag_at proto.SERVICE_DEPRECATED (options_at proto.SERVICE_OPTIONS r.1) };
}

-- the service of that name
abbrev pub service : NameLookup → Row → Option ServiceView
service means r = option_map (service_of r) (each (method means) (children_at proto.SERVICE_METHOD r.1))
