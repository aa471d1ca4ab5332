-- What is written down of descriptor.proto, each part of it unfolded.
use Rattle.pg_set.specs.descriptor.DescriptorParts.{descriptor_file, descriptor_parts, enum_options_type, enum_range_type, enum_type, field_options_type, field_type, file_options_type, file_type, kind_view, label_view, message_options_type, message_type, method_options_type, method_type, mode_view, oneof_type, range_type, service_options_type, service_type, set_type, value_options_type, value_type}
use Rattle.pg_set.specs.stated.Views.{PartsView}

unfoldable pub opened : PartsView
unfolding descriptor_file set_type file_type message_type range_type field_type oneof_type enum_type enum_range_type value_type
    service_type method_type file_options_type message_options_type field_options_type enum_options_type value_options_type
    service_options_type method_options_type label_view kind_view mode_view
opened = descriptor_parts
