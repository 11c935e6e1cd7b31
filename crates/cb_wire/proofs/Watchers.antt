-- The text of the request that makes a client tell of files.
use Rattle.std.proofs.Common.{◌≡◌, sym}
use Rattle.json.specs.Print.{escape_byte}
use Rattle.cb_wire.specs.Values.{value_text}
use Rattle.cb_wire.specs.Watchers.{watch_request}
use Rattle.std.specs.Prelude.{codes, ◌++◌}
use Rattle.cb_wire.proofs.Printed.{value_text-is}

pub watch-text : codes "{\"jsonrpc\":\"2.0\",\"id\":\"watch\","
    ++ (codes "\"method\":\"client/registerCapability\",\"params\":{\"registrations\":["
    ++ (codes "{\"id\":\"files\",\"method\":\"workspace/didChangeWatchedFiles\","
    ++ codes "\"registerOptions\":{\"watchers\":[{\"globPattern\":\"**/*.[ch]\"}]}}]}}"))
    ≡ value_text watch_request
unfolding escape_byte
watch-text = sym (value_text-is watch_request)
